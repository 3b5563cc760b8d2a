-- Text that gathers, and is sent to a sink from time to time, until a write fails.
--   PutsOn written faults text before after old new answer
--                    Done: of what was pending, with the text after it, a prefix was sent, and the rest is pending; Failed:
--                    a write of it failed, and the sink has counted that. What the sink holds and how often it failed are
--                    read off it by `written` and `faults`
use Rattle.std.specs.Prelude.{◌≡◌, ℕ, ◌≤◌, List, ◌++◌, Option}
use Rattle.road_io.specs.Told.{Told}
use Rattle.road_io.specs.Count.{HasRisen}
use Rattle.road_io.specs.Buffers.{pending, SendsPiece}
use Rattle.road_io.specs.declared.buffers.Pending.{Pending}
use Rattle.road_io.specs.declared.writing.Put.{Put}
use Rattle.road_io.specs.declared.writing.Put.TheVariants.{Failed}

pub record PutsOn {S : Type 0} (written : S → Option Told) (faults : S → ℕ) (text : List ℕ) (before after : Pending) (old new : S) (answer : Put) : Type 0 where
  pub sends : SendsPiece (pending before ++ text) (pending after) (written old) (written new) answer
  pub count : faults old ≤ faults new
  pub cause : answer ≡ Failed → HasRisen (faults old) (faults new)
