use Rattle.desk_core.proofs.Bare.{refused_range}
use Rattle.desk_core.proofs.tests.world.BareVersion.after.Goals as goal

pub returns-then-not-is_empty-clause-refused : goal.returns-then-not-is_empty-clause-refused
returns-then-not-is_empty-clause-refused g c =
    refused_range 20 c.args.self.now.batches _ c.args.changes.now c.is_empty.result c.is_empty.ensures c.if-not-is_empty.true
