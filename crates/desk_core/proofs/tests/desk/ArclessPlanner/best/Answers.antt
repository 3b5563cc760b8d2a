use Rattle.desk_core.proofs.Arcless.{no_walk}
use Rattle.desk_core.proofs.tests.desk.ArclessPlanner.best.Goals as goal

pub returns : goal.returns
returns g c = no_walk 20 c.args.from c.args.to c.eq.result c.eq.ensures c.if-eq.false
