use Rattle.std.proofs.Common.{take}
use Rattle.road_io.specs.declared.writing.Put.TheVariants.{Done}
use Rattle.line_front.specs.Items.{routes_text}
use Rattle.road_text.specs.Pieces.{Appends}
use Rattle.line_front.proofs.items.put_routes.Given as goal

abbrev pub invariant-loop-route : goal.invariant-loop-route
invariant-loop-route g l = Appends g.K.Sink.written g.K.Sink.faults (routes_text (take l.route-index l.routes)) l.initial.sink l.sink Done
