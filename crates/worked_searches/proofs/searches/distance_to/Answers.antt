use Rattle.std.proofs.Common.{◌^◌, arith}
use Rattle.forward_star.proofs.Bound.{dists_below, DistsBelow-weaker}
use Rattle.worked_searches.proofs.searches.distance_to.Goals as goal

pub labels_to-requires-clause-near : goal.labels_to-requires-clause-near
labels_to-requires-clause-near c =
    let g = c.args.star.now in
    DistsBelow-weaker g (2 ^ 57) (2 ^ 58) (omega arith) (dists_below g c.vertices-vertices.ensures.limits)
