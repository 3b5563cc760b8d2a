use Rattle.std.proofs.Common.{◌-◌, ◌≤◌}
use Rattle.dimacs_reader.proofs.FastLemmas.{AreDigits}
use Rattle.dimacs_reader.proofs.fast.number_field.Given as goal

abbrev pub invariant-loop-i : goal.invariant-loop-i
invariant-loop-i l = record { digits : AreDigits l.line l.at l.i l.value; few : l.i - l.at ≤ 19 }
