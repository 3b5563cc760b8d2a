-- The places of a walk: where it is, and how long it is so far.
--   places g u p   the vertices at its places 0 to n
--   sums g k p     the lengths up to each of them, k more
--   trail_of g u p both
--   vertex_at t i  the vertex at place i
--   between t i j  the length from place i to place j
--   IsDistAt g t i j d  d is the distance between the vertices at two places
use Rattle.std.specs.Prelude.{◌+◌, ◌-◌, ℕ, List, [], ◌∷◌, Some, slice_index}
use Rattle.road_model.specs.declared.trail.Trail.{Trail}
use Rattle.road_model.specs.Graph.{Graph, head_at, length_at}
use Rattle.road_model.specs.Dist.{IsDist}

abbrev pub places : Graph → ℕ → List ℕ → List ℕ
places g u [] = u ∷ []
places g u (a ∷ p) = u ∷ places g (head_at g a) p

abbrev pub sums : Graph → ℕ → List ℕ → List ℕ
sums g k [] = k ∷ []
sums g k (a ∷ p) = k ∷ sums g (k + length_at g a) p

abbrev pub trail_of : Graph → ℕ → List ℕ → Trail
trail_of g u p = record { vertices = places g u p; sums = sums g 0 p }

abbrev pub vertex_at : Trail → ℕ → ℕ
vertex_at t i = slice_index t.vertices i

abbrev pub between : Trail → ℕ → ℕ → ℕ
between t i j = slice_index t.sums j - slice_index t.sums i

abbrev pub IsDistAt : Graph → Trail → ℕ → ℕ → ℕ → Type 0
IsDistAt g t i j d = IsDist g (vertex_at t i) (vertex_at t j) (Some d)
