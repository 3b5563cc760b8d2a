use Rattle.road_model.specs.Graph.{rows_of}
use Rattle.hierarchy_build.proofs.Arcs.{KeepsArcs-pushed}
use Rattle.hierarchy_build.proofs.base.lower_all.Goals as goal

pub returns-clause-arcs : goal.returns-clause-arcs
returns-clause-arcs c =
    KeepsArcs-pushed c.args.ranks c.args.rank.now c.args.first.now c.args.head.now (rows_of c.args.star.now) c.args.up.now c.args.down.now c.lower_arcs.new.up c.lower_arcs.new.down c.push_triangles.new.up c.push_triangles.new.down c.lower_arcs.ensures c.push_triangles.ensures.keeps
