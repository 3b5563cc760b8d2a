-- Grids of two-way streets, whose lengths a generator of words gives.
--   corner_at w r c     the vertex in row r and column c, both counted from 0, of a grid w wide
--   both_ways u v       the ends of an arc from u to v, and of one back
--   right_ends, lower_ends   the ends of the two arcs with the right neighbour, and with the lower one, where there is
--                       one
--   cell_ends w h r c   the arcs of the vertex in row r and column c: with its right neighbour, then with its lower one
--   row_ends w h r      the arcs of the vertices in row r, column by column
--   grid_ends w h       the arcs of all vertices, row by row
--   row_of ends word    the arc of these ends that a word gives, 1 to 1000 long
--   rows_from x ends    these arcs, where the generator stands at x: each takes the next word, and is 1 to 1000 long
--   state_after x ends the state of the generator after them
--   grid x w h          the grid that a generator makes
--   IsSide n            a side of a grid that is made: 1 to 4096
-- The generator is SplitMix64, whose step `mix_u64` gives a word and its next state.
use Rattle.std.specs.Prelude.{ℕ, ◌+◌, ◌*◌, ◌%◌, ◌≤◌, List, [], ◌∷◌, ◌++◌, nat_lt, if◌then◌else◌}
use Rattle.std.specs.List.{flat_map, range_with_len}
use Rattle.rand_xoshiro.specs.SplitMix64.{mix_u64}
use Rattle.road_model.specs.declared.rows.ArcRow.{ArcRow}
use Rattle.road_model.specs.Graph.{Graph}

abbrev pub corner_at : ℕ → ℕ → ℕ → ℕ
corner_at width r c = r * width + c + 1

abbrev pub both_ways : ℕ → ℕ → List (ℕ × ℕ)
both_ways u v = (u, v) ∷ (v, u) ∷ []

abbrev pub right_ends : ℕ → ℕ → ℕ → List (ℕ × ℕ)
right_ends width r c = if nat_lt (c + 1) width then both_ways (corner_at width r c) (corner_at width r (c + 1)) else []

abbrev pub lower_ends : ℕ → ℕ → ℕ → ℕ → List (ℕ × ℕ)
lower_ends width height r c = if nat_lt (r + 1) height then both_ways (corner_at width r c) (corner_at width (r + 1) c) else []

abbrev pub cell_ends : ℕ → ℕ → ℕ → ℕ → List (ℕ × ℕ)
cell_ends width height r c = right_ends width r c ++ lower_ends width height r c

unfoldable pub row_ends : ℕ → ℕ → ℕ → List (ℕ × ℕ)
row_ends width height r = flat_map (cell_ends width height r) (range_with_len 0 width)

unfoldable pub grid_ends : ℕ → ℕ → List (ℕ × ℕ)
grid_ends width height = flat_map (row_ends width height) (range_with_len 0 height)

abbrev pub row_of : ℕ × ℕ → ℕ → ArcRow
row_of ends word = record { tail = ends.0; head = ends.1; length = 1 + word % 1000 }

unfoldable pub rows_from : ℕ → List (ℕ × ℕ) → List ArcRow
rows_from x [] = []
rows_from x (ends ∷ more) = row_of ends (mix_u64 x).0 ∷ rows_from (mix_u64 x).1 more

unfoldable pub state_after : ℕ → List (ℕ × ℕ) → ℕ
state_after x [] = x
state_after x (ends ∷ more) = state_after (mix_u64 x).1 more

unfoldable pub grid : ℕ → ℕ → ℕ → Graph
grid x width height = record { vertices = width * height; arcs = rows_from x (grid_ends width height) }

-- a side of a grid that is made
pub record IsSide (n : ℕ) : Type 0 where
  pub first : 1 ≤ n
  pub last : n ≤ 4096
