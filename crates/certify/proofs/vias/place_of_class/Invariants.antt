use Rattle.std.proofs.Common.{◌-◌, ◌≤◌, length}
use Rattle.certify.proofs.ClassLemmas.{IsBracket}
use Rattle.certify.proofs.vias.place_of_class.Given as goal

abbrev pub invariant-loop-low : goal.invariant-loop-low
invariant-loop-low l = record {
  order : l.low ≤ l.high;
  inside : l.high ≤ length l.classes;
  bracket : IsBracket l.classes l.least l.low l.high;
}

abbrev pub decreases-loop-low : goal.decreases-loop-low
decreases-loop-low l = l.high - l.low
