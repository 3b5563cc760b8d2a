-- Paths that are refused without being made.
--   IsNever ts q l w    no path through w is admissible for the query q, where the optimum is l long
use Rattle.std.specs.Prelude.{◌≡◌, ℕ, List}
use Rattle.road_model.specs.declared.answer.Query.{Query}
use Rattle.road_model.specs.Walk.{walk_length}
use Rattle.road_model.specs.Alternatives.{IsVia, IsAdmissible}
use Rattle.canonical_trees.specs.Trees.{Trees}

abbrev pub IsNever : Trees → Query → ℕ → ℕ → Type 0
IsNever ts q l w = (optimum p : List ℕ) → walk_length ts.graph optimum ≡ l → IsVia ts.graph ts.source ts.target w p → IsAdmissible ts.graph q optimum p → ⊥
