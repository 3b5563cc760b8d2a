-- The path through a vertex, as it is put to the tests.
--   IsPosed g q o        a query from a vertex of a graph within the limits, and its optimum, below 2^57
--   IsCandidate g s t c  the path through a vertex, with the distance of that vertex from the source
--   FindsCandidate g s t bound v o   Some: the candidate of v, whose path is within the bound; None: no path
--                        through v is
--   IsNear g q l p       p is no longer than 1 + epsilon times l, as every alternative has to be
--   pair_of g q bound    what a clause sees of the two trees of a query, with this radius
--   IsBoundOf q l n      n is the greatest length that is no longer than 1 + epsilon times l
use Rattle.std.specs.Prelude.{◌≡◌, ◌<◌, ◌≤◌, ◌^◌, ℕ, List, Option, Some, None}
use Rattle.road_model.specs.declared.answer.Optimum.{Optimum}
use Rattle.road_model.specs.declared.answer.Query.{Query}
use Rattle.road_model.specs.Graph.{Graph, IsVertex}
use Rattle.road_model.specs.File.{IsWithinLimits}
use Rattle.road_model.specs.Walk.{walk_length}
use Rattle.road_model.specs.Dist.{IsDist}
use Rattle.road_model.specs.Canonical.{IsOptimum}
use Rattle.road_model.specs.Fraction.{Stretches}
use Rattle.road_model.specs.Alternatives.{IsVia}
use Rattle.canonical_trees.specs.Trees.{Trees}
use Rattle.via_search.specs.declared.candidates.Candidate.{Candidate}

pub record IsPosed (g : Graph) (q : Query) (optimum : Optimum) : Type 0 where
  pub limits : IsWithinLimits g
  pub source : IsVertex g.vertices q.from
  pub best : IsOptimum g q.from q.to (Some optimum)
  pub short : optimum.length < 2 ^ 57

pub record IsCandidate (g : Graph) (s t : ℕ) (c : Candidate) : Type 0 where
  pub through : IsVia g s t c.via c.arcs
  pub dist : IsDist g s c.via (Some c.near)
  pub is_length : c.length ≡ walk_length g c.arcs
  pub short : c.length < 2 ^ 58

abbrev pub FindsCandidate : Graph → ℕ → ℕ → ℕ → ℕ → Option Candidate → Type 0
FindsCandidate g s t bound v None = (p : List ℕ) → IsVia g s t v p → bound < walk_length g p
FindsCandidate g s t bound v (Some c) = (c.via ≡ v) × IsCandidate g s t c × (walk_length g c.arcs ≤ bound)

abbrev pub IsNear : Graph → Query → ℕ → List ℕ → Type 0
IsNear g q l p = Stretches q.epsilon (walk_length g p) l

abbrev pub pair_of : Graph → Query → ℕ → Trees
pair_of g q bound = record { graph = g; source = q.from; target = q.to; radius = Some bound }

pub record IsBoundOf (q : Query) (l n : ℕ) : Type 0 where
  pub within : Stretches q.epsilon n l
  pub greatest : (p : ℕ) → Stretches q.epsilon p l → p ≤ n
