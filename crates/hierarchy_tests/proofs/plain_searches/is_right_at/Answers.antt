use Rattle.forward_star.proofs.Bound.{dists_below}
use Rattle.hierarchy_tests.proofs.plain_searches.is_right_at.Goals as goal

pub new-requires-clause-near : goal.new-requires-clause-near
new-requires-clause-near c = dists_below c.args.star.now c.within_limits.ensures
