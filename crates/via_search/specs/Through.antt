-- The path through a vertex, by its length alone.
--   HasPathThrough g s t v l   there is the path through v, and it is l long
--   IsLengthThrough g s t v o  Some: its length; None: no walk leads through v
--   NamesPath ts v n           where the path through v is within the radius, n is its name
use Rattle.std.specs.Prelude.{◌≡◌, ℕ, List, Option, Some, None}
use Rattle.road_model.specs.Graph.{Graph}
use Rattle.road_model.specs.Walk.{walk_length}
use Rattle.road_model.specs.Alternatives.{IsVia, HasNoVia, IsName}
use Rattle.tree_search.specs.Ball.{IsWithin}
use Rattle.canonical_trees.specs.Trees.{Trees}

pub record HasPathThrough (g : Graph) (s t v l : ℕ) : Type 0 where
  pub path : List ℕ
  pub through : IsVia g s t v path
  pub is_length : l ≡ walk_length g path

abbrev pub IsLengthThrough : Graph → ℕ → ℕ → ℕ → Option ℕ → Type 0
IsLengthThrough g s t v None = HasNoVia g s t v
IsLengthThrough g s t v (Some l) = HasPathThrough g s t v l

abbrev pub NamesPath : Trees → ℕ → ℕ → Type 0
NamesPath ts v n = (p : List ℕ) → IsVia ts.graph ts.source ts.target v p → IsWithin ts.radius (walk_length ts.graph p) → IsName ts.graph ts.source ts.target p n
