use Rattle.std.proofs.Common.{◌≡◌, ◌-◌, length}
use Rattle.road_model.specs.Graph.{reversed}
use Rattle.hierarchy_optimum.proofs.Back.{NoneFits}
use Rattle.hierarchy_optimum.proofs.optimum.step_back.Given as goal

abbrev pub invariant-loop-step : goal.invariant-loop-step
invariant-loop-step l = record {
  same : l.distances ≡ l.fn.distances;
  none : NoneFits (reversed l.star) l.fn.distances.source l.v l.left l.i;
}

abbrev pub decreases-loop-step : goal.decreases-loop-step
decreases-loop-step l = length (reversed l.star).arcs - l.i
