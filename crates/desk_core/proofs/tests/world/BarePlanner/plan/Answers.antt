use Rattle.desk_core.proofs.Bare.{bare_none, bare_plan}
use Rattle.desk_core.proofs.tests.world.BarePlanner.plan.Goals as goal

pub returns-then-eq : goal.returns-then-eq
returns-then-eq g c =
    bare_plan 20 c.args.self.now.batches c.args.query.now c.nowhere.result c.eq.result c.eq.ensures c.if-eq.true c.nowhere.ensures

pub returns : goal.returns
returns g c = bare_none 20 c.args.self.now.batches c.args.query.now c.eq.result c.eq.ensures c.if-eq.false
