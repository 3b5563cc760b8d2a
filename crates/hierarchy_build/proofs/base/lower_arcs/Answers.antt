use Rattle.std.proofs.Common.{arith}
use Rattle.std.proofs.lemmas.List.{take_all}
use Rattle.road_model.specs.Graph.{rows_of}
use Rattle.hierarchy_build.proofs.Arcs.{ArcsSoFar-more, KeepsArcs-all}
use Rattle.hierarchy_build.proofs.base.lower_arcs.Goals as goal

pub loop-place-preserved : goal.loop-place-preserved
loop-place-preserved c =
    ArcsSoFar-more c.args.ranks c.args.rank.now c.args.first.now c.args.head.now (rows_of c.args.star.now) c.loop-place.place c.row-arc.result c.args.up.now c.args.down.now c.loop-place.up c.loop-place.down c.lower_arc.new.up c.lower_arc.new.down (omega arith) c.row-arc.ensures c.loop-place.invariant c.lower_arc.ensures

pub returns : goal.returns
returns c =
    KeepsArcs-all c.args.ranks c.args.rank.now c.args.first.now c.args.head.now (rows_of c.args.star.now) c.loop-place.place c.args.up.now c.args.down.now c.loop-place.up c.loop-place.down (take_all c.loop-place.place (rows_of c.args.star.now) (omega arith)) c.loop-place.invariant
