use Rattle.desk_core.proofs.Bare.{bare_vertices}
use Rattle.desk_core.proofs.tests.world.BarePlanner.vertices.Goals as goal

pub returns : goal.returns
returns c = bare_vertices 20 c.args.self.now.batches
