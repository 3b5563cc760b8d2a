use Rattle.tree_tests.proofs.OnPaths.{on_of_dist, met_some}
use Rattle.road_model.proofs.Walks.{sound_of}
use Rattle.tree_tests.proofs.refusals.tried.Goals as goal

pub returns-clause-never : goal.returns-clause-never
returns-clause-never c = λ t.
    let ts = c.args.pair.now in
    let sound = sound_of ts.graph c.star.result.now c.star.ensures c.within_limits.ensures in
    let at_y = met_some ts c.args.side c.args.w c.args.x c.met.result c.in-Some-met.y
    (c.met.ensures ts c.args.side c.fill.ensures (on_of_dist ts c.args.side c.args.w c.in-Some._near sound c.in-Some.ensures.is) (on_of_dist ts c.args.side c.args.x c.in-Some-label._far sound c.in-Some-label.ensures.is))
    c.in-Some-met.is in
    c.is_detour.ensures t at_y.0 at_y.1
