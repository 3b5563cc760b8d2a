-- What one read of a source does.
--   room     the bytes of the room after the read
--   Reads    the answer fits the room and what the source tells before and after the read
-- Nothing is said of what the room has after the bytes that came.
use Rattle.std.specs.Prelude.{◌≡◌, ℕ, ◌<◌, ◌≤◌, List, [], ◌++◌, length, take, Option}
use Rattle.road_io.specs.Told.{Told, IfTold}
use Rattle.road_io.specs.declared.reading.Read.{Read}
use Rattle.road_io.specs.declared.reading.Read.TheVariants.{Took, End, Failed}

abbrev pub Reads : List ℕ → Option Told → Option Told → Read → Type 0
Reads room old new (Took n) =
    (0 < n) × (n ≤ length room) × IfTold old new (λ before after. before ≡ take n room ++ after)
Reads room old new End = IfTold old new (λ before after. (before ≡ []) × (after ≡ []))
Reads room old new Failed = IfTold old new (λ before after. after ≡ before)
