-- How the calls of an object that failed are counted.
--   last_count   the last value that a count of 64 bits can hold, where it stays
--   HasRisen     the count is greater, unless it already stood at its last value. Every count also never falls, so that
--                it is then greater or stands there
use Rattle.std.specs.Prelude.{ℕ, ◌-◌, ◌^◌, ◌<◌}

abbrev pub last_count : ℕ
last_count = 2 ^ 64 - 1

abbrev pub HasRisen : ℕ → ℕ → Type 0
HasRisen old new = old < last_count → old < new
