-- Published batches, kept in chunks.
--   joined full last     the batches of the full chunks, and then those of the last one
--   AreChunks full last  each full chunk has 1024 batches, and the last one fewer; there are fewer than LAST_VERSION in all
use Rattle.std.specs.Prelude.{◌≡◌, ◌<◌, ◌+◌, ◌*◌, ◌++◌, List, length, All}
use Rattle.std.specs.List.{flat_map}
use Rattle.road_model.specs.declared.change.Change.{Change}
use Rattle.road_model.specs.declared.planner.TheConstants.{LAST_VERSION}

abbrev pub joined : List (List (List Change)) → List (List Change) → List (List Change)
joined full last = flat_map (λ chunk. chunk) full ++ last

pub record AreChunks (full : List (List (List Change))) (last : List (List Change)) : Type 0 where
  pub full_chunks : All (λ chunk. length chunk ≡ 1024) full
  pub last_chunk : length last < 1024
  pub few : length full * 1024 + length last < LAST_VERSION
