use Rattle.std.proofs.Common.{◌≡◌}
use Rattle.hierarchy_tests.proofs.plain_searches.is_right_at.Given as goal

abbrev pub invariant-loop-pair : goal.invariant-loop-pair
invariant-loop-pair l = (l.quick.graph.vertices ≡ l.star.vertices) × (l.plain.graph ≡ l.star)
