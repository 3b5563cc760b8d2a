-- Queries from plain numbers.
--   ratio n d        the ratio n / d
--   query_of q       the query of these numbers, whatever they are
--   usual_numbers    two vertices with the usual ratios: an alternative shares at most 4/5 of the optimum's length
--                    with it, is shortest on each quarter of that length, and is nowhere more than a quarter longer
--                    than shortest
--   usual s t        the query of these
use Rattle.std.specs.Prelude.{ℕ}
use Rattle.road_model.specs.declared.answer.Query.{Query}
use Rattle.road_model.specs.declared.request.CursorQuery.{CursorQuery}
use Rattle.road_model.specs.Fraction.{Fraction}

abbrev pub ratio : ℕ → ℕ → Fraction
ratio num den = record { num = num; den = den }

abbrev pub query_of : CursorQuery → Query
query_of q = record {
  from = q.from;
  to = q.to;
  gamma = ratio q.gamma.0 q.gamma.1;
  alpha = ratio q.alpha.0 q.alpha.1;
  epsilon = ratio q.epsilon.0 q.epsilon.1;
}

abbrev pub usual_numbers : ℕ → ℕ → CursorQuery
usual_numbers s t = record { from = s; to = t; gamma = (4, 5); alpha = (1, 4); epsilon = (1, 4) }

abbrev pub usual : ℕ → ℕ → Query
usual s t = query_of (usual_numbers s t)
