-- The calls of an object in memory, of which some are to fail.
--   failing       the numbers of the calls that are to fail, counted from 0
--   made          how many calls were made, and so the number of the next
--   faults        how many calls failed
--   is_to_fail    whether the next call is to fail
--   one_more      a count that goes up by one, and stays at its last value
use Rattle.std.specs.Prelude.{ℕ, ◌+◌, Bool, min, nat_eq}
use Rattle.std.specs.List.{list_any}
use Rattle.road_io.specs.Count.{last_count}
use Rattle.road_io.specs.declared.calls.Calls.{Calls}

abbrev pub is_to_fail : Calls → Bool
is_to_fail calls = list_any (λ number. nat_eq number calls.made) calls.failing.now

abbrev pub one_more : ℕ → ℕ
one_more count = min (count + 1) last_count
