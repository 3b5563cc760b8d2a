use Rattle.std.proofs.Common.{take}
use Rattle.road_io.specs.declared.writing.Put.TheVariants.{Done}
use Rattle.certificate_text.specs.Parts.{routes_text}
use Rattle.certificate_text.specs.Putting.{PutsOn}
use Rattle.certificate_text.proofs.write.put_routes.Given as goal

abbrev pub invariant-loop-route : goal.invariant-loop-route
invariant-loop-route g l = PutsOn g.K.Sink.written g.K.Sink.faults (routes_text (take l.route-index l.routes)) l.initial.text l.text l.initial.sink l.sink Done
