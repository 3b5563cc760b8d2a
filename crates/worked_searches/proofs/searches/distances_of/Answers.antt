use Rattle.forward_star.proofs.Bound.{dists_below}
use Rattle.worked_searches.proofs.searches.distances_of.Goals as goal

pub new-requires-clause-near : goal.new-requires-clause-near
new-requires-clause-near c = dists_below c.args.star.now c.vertices-vertices.ensures.limits
