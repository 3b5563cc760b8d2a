use Rattle.std.proofs.Common.{subst}
use Rattle.road_model.specs.Graph.{Graph}
use Rattle.road_io.specs.Told.{IfTold}
use Rattle.route_server.specs.Giving.{GivesText, IsPrint}
use Rattle.route_server.proofs.grids.make.Goals as goal

pub returns-in-Ok-clause-gives : goal.returns-in-Ok-clause-gives
returns-in-Ok-clause-gives g c =
    subst (λ (made : Graph). IfTold (g.K.Sink.written c.args.output.now) (g.K.Sink.written c.write.new.output) (λ out now. GivesText (IsPrint made) out now c.write.result))
    c.in-Ok.ensures.grid c.write.ensures.gives
