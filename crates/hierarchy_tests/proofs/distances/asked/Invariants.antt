use Rattle.std.proofs.Common.{◌≡◌}
use Rattle.hierarchy_tests.proofs.distances.asked.Given as goal

abbrev pub invariant-loop-number : goal.invariant-loop-number
invariant-loop-number l = l.oracle.graph.vertices ≡ l.star.vertices
