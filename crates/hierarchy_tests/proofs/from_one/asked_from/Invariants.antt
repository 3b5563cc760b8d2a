use Rattle.std.proofs.Common.{◌≡◌}
use Rattle.hierarchy_tests.proofs.from_one.asked_from.Given as goal

abbrev pub invariant-loop-number : goal.invariant-loop-number
invariant-loop-number l = l.known.graph.vertices ≡ l.star.vertices
