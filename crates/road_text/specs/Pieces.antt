-- Text that is written to a sink piece by piece, until a write fails.
--   put_of result    how the write ended, from a result
--   Appends written faults text old new answer
--                    the text, or a prefix of it where the write failed, stands in the sink after what was there; where
--                    it failed, the sink has counted it. What the sink holds and how often it failed are read off it by
--                    `written` and `faults`
use Rattle.std.specs.Prelude.{◌≡◌, ℕ, ◌≤◌, List, Option, Result, Ok, Err}
use Rattle.road_io.specs.Told.{Told}
use Rattle.road_io.specs.Count.{HasRisen}
use Rattle.road_io.specs.Sink.{Writes}
use Rattle.road_io.specs.declared.writing.Put.{Put}
use Rattle.road_io.specs.declared.writing.Put.TheVariants.{Done, Failed}

abbrev pub put_of : {T E : Type 0} → Result T E → Put
put_of (Ok done) = Done
put_of (Err failed) = Failed

pub record Appends {S : Type 0} (written : S → Option Told) (faults : S → ℕ) (text : List ℕ) (old new : S) (answer : Put) : Type 0 where
  pub writes : Writes text (written old) (written new) answer
  pub count : faults old ≤ faults new
  pub cause : answer ≡ Failed → HasRisen (faults old) (faults new)
