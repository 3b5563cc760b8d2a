-- What a read of the system means as an answer.
--   answer_of   nothing read is the end, and an error is a failure
use Rattle.std.specs.Prelude.{ℕ, Result, Ok, Err, if◌then◌else◌, ◌==◌}
use Rattle.road_io.specs.declared.reading.Read.{Read}
use Rattle.road_io.specs.declared.reading.Read.TheVariants.{Took, End, Failed}

abbrev pub answer_of : {E : Type 0} → Result ℕ E → Read
answer_of (Ok count) = if count == 0 then End else Took count
answer_of (Err e) = Failed
