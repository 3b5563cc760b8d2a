-- Orders of vertices.
--   IsOrder n vs         vs has n members, each a vertex, and every vertex is among them: so each is there once
--   AreTaken taken vs    taken[v - 1] is 1 where v is a member of vs, and else 0; no member is there twice, as vs
--                        has as many as there are ones
use Rattle.std.specs.Prelude.{◌≡◌, ◌⊎◌, ◌-◌, ℕ, List, length, slice_index, sum, All, Contains}
use Rattle.road_model.specs.Graph.{IsVertex}

pub record IsOrder (n : ℕ) (vs : List ℕ) : Type 0 where
  pub size : length vs ≡ n
  pub inside : All (IsVertex n) vs
  pub every : (v : ℕ) → IsVertex n v → Contains vs v

pub record AreTaken (taken vs : List ℕ) : Type 0 where
  pub count : length vs ≡ sum taken
  pub inside : All (IsVertex (length taken)) vs
  pub flags : (v : ℕ) → IsVertex (length taken) v → (slice_index taken (v - 1) ≡ 0) ⊎ ((slice_index taken (v - 1) ≡ 1) × Contains vs v)
