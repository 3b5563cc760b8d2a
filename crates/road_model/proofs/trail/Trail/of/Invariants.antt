use Rattle.road_model.proofs.Trails.{OnTrail}
use Rattle.road_model.proofs.trail.Trail.of.Given as goal

abbrev pub invariant-loop-a : goal.invariant-loop-a
invariant-loop-a g l = OnTrail (g.N.Network.graph l.net) l.fn.from l.arcs l.a-index l.vertices.items l.sums.items l.at l.sum
