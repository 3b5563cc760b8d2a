use Rattle.desk_core.proofs.Arcless.{no_walk}
use Rattle.desk_core.proofs.tests.desk.ArclessPlanner.verdict.Goals as goal

pub returns : goal.returns
returns g c = no_walk 20 c.args.query.now.from c.args.query.now.to c.eq.result c.eq.ensures c.if-eq.false
