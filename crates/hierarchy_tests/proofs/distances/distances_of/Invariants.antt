use Rattle.std.proofs.Common.{◌≡◌}
use Rattle.hierarchy_tests.proofs.distances.distances_of.Given as goal

abbrev pub invariant-loop-pair : goal.invariant-loop-pair
invariant-loop-pair l = l.oracle.graph.vertices ≡ l.star.vertices
