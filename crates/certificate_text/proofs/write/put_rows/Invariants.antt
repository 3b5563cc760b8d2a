use Rattle.std.proofs.Common.{take}
use Rattle.road_io.specs.declared.writing.Put.TheVariants.{Done}
use Rattle.certificate_text.specs.Parts.{rows_text}
use Rattle.certificate_text.specs.Putting.{PutsOn}
use Rattle.certificate_text.proofs.write.put_rows.Given as goal

abbrev pub invariant-loop-row : goal.invariant-loop-row
invariant-loop-row g l = PutsOn g.K.Sink.written g.K.Sink.faults (rows_text (take l.row-index l.rows)) l.initial.text l.text l.initial.sink l.sink Done
