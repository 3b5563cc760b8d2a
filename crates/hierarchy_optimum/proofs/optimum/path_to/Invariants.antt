use Rattle.std.proofs.Common.{◌≡◌}
use Rattle.hierarchy_optimum.proofs.Back.{Going}
use Rattle.hierarchy_optimum.proofs.optimum.path_to.Given as goal

abbrev pub invariant-loop-left : goal.invariant-loop-left
invariant-loop-left l = record {
  same : l.distances ≡ l.fn.distances;
  going : Going l.star l.fn.distances.source l.fn.t l.at l.left l.arcs.items;
}

abbrev pub decreases-loop-left : goal.decreases-loop-left
decreases-loop-left l = l.left
