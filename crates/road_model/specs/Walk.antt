-- Walks, as lists of arc numbers.
--   IsWalk g u p v   p leads from u to v: each arc begins where the one before it ends; the list of no arc is a walk
--                    from each vertex to itself
--   IsWalkFrom g u p  it leads from u to some vertex
--   walk_length g p  the sum of the lengths of its arcs
use Rattle.std.specs.Prelude.{◌≡◌, ◌+◌, ℕ, List, [], ◌∷◌, Some}
use Rattle.road_model.specs.declared.rows.ArcRow.{ArcRow}
use Rattle.road_model.specs.Graph.{Graph, arc_at, length_at}

abbrev pub IsWalk : Graph → ℕ → List ℕ → ℕ → Type 0
IsWalk g u [] v = u ≡ v
IsWalk g u (a ∷ p) v = (r : ArcRow) × (arc_at g a ≡ Some r) × (r.tail ≡ u) × IsWalk g r.head p v

abbrev pub walk_length : Graph → List ℕ → ℕ
walk_length g [] = 0
walk_length g (a ∷ p) = length_at g a + walk_length g p

-- p is a walk from u to some vertex
pub record IsWalkFrom (g : Graph) (u : ℕ) (p : List ℕ) : Type 0 where
  pub end : ℕ
  pub walk : IsWalk g u p end
