-- Distances to many vertices.
--   AreDists g u vs ds   ds has the distance from u to each of vs, in its place
use Rattle.std.specs.Prelude.{◌≡◌, ◌<◌, ℕ, List, Option, None, length, slice_index, slice_index_or}
use Rattle.road_model.specs.Graph.{Graph}
use Rattle.road_model.specs.Dist.{IsDist}

pub record AreDists (g : Graph) (u : ℕ) (vs : List ℕ) (ds : List (Option ℕ)) : Type 0 where
  pub size : length ds ≡ length vs
  pub each : (k : ℕ) → k < length vs → IsDist g u (slice_index vs k) (slice_index_or ds k None)
