use Rattle.std.proofs.Common.{◌≡◌, take}
use Rattle.certify.proofs.numbers.numbers_of.Given as goal

abbrev pub invariant-loop-arc : goal.invariant-loop-arc
invariant-loop-arc l = l.numbers.items ≡ take l.arc-index l.arcs
