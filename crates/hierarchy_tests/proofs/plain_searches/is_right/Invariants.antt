use Rattle.std.proofs.Common.{◌≡◌}
use Rattle.hierarchy_tests.proofs.plain_searches.is_right.Given as goal

abbrev pub invariant-loop-from : goal.invariant-loop-from
invariant-loop-from l = (l.quick.graph.vertices ≡ l.star.vertices) × (l.plain.graph ≡ l.star)

abbrev pub invariant-loop-to : goal.invariant-loop-to
invariant-loop-to l = (l.quick.graph.vertices ≡ l.star.vertices) × (l.plain.graph ≡ l.star)
