use Rattle.std.proofs.Common.{◌≡◌}
use Rattle.hierarchy_tests.proofs.from_one.wrong_row.Given as goal

abbrev pub invariant-loop-place : goal.invariant-loop-place
invariant-loop-place l = l.known.graph.vertices ≡ l.star.vertices
