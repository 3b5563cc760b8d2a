use Rattle.road_model.specs.Graph.{rows_of}
use Rattle.hierarchy_build.proofs.Arcs.{ArcsSoFar}
use Rattle.hierarchy_build.proofs.base.lower_arcs.Given as goal

abbrev pub invariant-loop-place : goal.invariant-loop-place
invariant-loop-place l = ArcsSoFar l.ranks l.rank l.first l.head (rows_of l.star) l.place l.fn.up l.fn.down l.up l.down
