-- The near vertices as a list.
--   AreNears o vs   vs has exactly the near vertices, and they rise
--   IsPast vs k before   those of the places below k are at most that before, and the others above it
use Rattle.std.specs.Prelude.{◌↔◌, ◌<◌, ◌≤◌, ℕ, List, Contains, length, slice_index}
use Rattle.std.specs.List.Sorted.{IsStrictlyIncreasing}
use Rattle.recheck.specs.Paths.{Ground, IsNear}

pub record AreNears (o : Ground) (vs : List ℕ) : Type 0 where
  pub each : (v : ℕ) → Contains vs v ↔ IsNear o v
  pub rising : IsStrictlyIncreasing vs

pub record IsPast (vs : List ℕ) (k before : ℕ) : Type 0 where
  pub low : (j : ℕ) → j < k → j < length vs → slice_index vs j ≤ before
  pub high : (j : ℕ) → k ≤ j → j < length vs → before < slice_index vs j
