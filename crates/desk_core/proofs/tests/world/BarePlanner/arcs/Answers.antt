use Rattle.desk_core.proofs.Bare.{bare_arcs}
use Rattle.desk_core.proofs.tests.world.BarePlanner.arcs.Goals as goal

pub returns : goal.returns
returns c = bare_arcs 20 c.args.self.now.batches
