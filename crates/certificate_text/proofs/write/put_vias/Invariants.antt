use Rattle.std.proofs.Common.{take}
use Rattle.road_io.specs.declared.writing.Put.TheVariants.{Done}
use Rattle.certificate_text.specs.Parts.{vias_text}
use Rattle.certificate_text.specs.Putting.{PutsOn}
use Rattle.certificate_text.proofs.write.put_vias.Given as goal

abbrev pub invariant-loop-via : goal.invariant-loop-via
invariant-loop-via g l = PutsOn g.K.Sink.written g.K.Sink.faults (vias_text (take l.via-index l.vias)) l.initial.text l.text l.initial.sink l.sink Done
