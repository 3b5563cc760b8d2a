use Rattle.std.proofs.Common.{◌≡◌, take}
use Rattle.tree_tests.proofs.sums.ascending.Given as goal

abbrev pub invariant-loop-arc : goal.invariant-loop-arc
invariant-loop-arc l = l.numbers.items ≡ take l.arc-index l.arcs
