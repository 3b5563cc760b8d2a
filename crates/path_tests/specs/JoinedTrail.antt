-- What a test uses of the walk that it is handed.
--   IsJoinedTrail o t via    the places of a walk whose part up to the place via, and whose part from there
--                            on, have the distances of o; each subpath of a subpath as long as its distance
--                            is as long as its own
use Rattle.std.specs.Prelude.{◌≡◌, ◌<◌, ◌≤◌, ◌^◌, ℕ, length, slice_index}
use Rattle.road_model.specs.declared.trail.Trail.{Trail}
use Rattle.road_model.specs.Graph.{Graph, IsVertex}
use Rattle.road_model.specs.Dist.{NoWalk}
use Rattle.road_model.specs.Places.{vertex_at, between, IsDistAt}

pub record IsJoinedTrail (o : Graph) (t : Trail) (via : ℕ) : Type 0 where
  pub via_inside : via < length t.vertices
  pub same_length : length t.sums ≡ length t.vertices
  pub few : length t.vertices < 2 ^ 32
  pub rising : (i j : ℕ) → i ≤ j → j < length t.vertices → slice_index t.sums i ≤ slice_index t.sums j
  pub vertices : (i : ℕ) → i < length t.vertices → IsVertex o.vertices (vertex_at t i)
  pub reached : (i j : ℕ) → i ≤ j → j < length t.vertices → NoWalk o (vertex_at t i) (vertex_at t j) → ⊥
  pub prefix : (i j : ℕ) → i ≤ j → j ≤ via → IsDistAt o t i j (between t i j)
  pub back : (i j : ℕ) → via ≤ i → i ≤ j → j < length t.vertices → IsDistAt o t i j (between t i j)
  pub inner : (i a b j : ℕ) → i ≤ a → a ≤ b → b ≤ j → j < length t.vertices → IsDistAt o t i j (between t i j) → IsDistAt o t a b (between t a b)
