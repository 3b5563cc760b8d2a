use Rattle.std.proofs.Common.{take}
use Rattle.road_io.specs.declared.writing.Put.TheVariants.{Done}
use Rattle.certificate_text.specs.Texts.{numbers_text}
use Rattle.certificate_text.specs.Putting.{PutsOn}
use Rattle.certificate_text.proofs.write.put_numbers.Given as goal

abbrev pub invariant-loop-number : goal.invariant-loop-number
invariant-loop-number g l = PutsOn g.K.Sink.written g.K.Sink.faults (numbers_text (take l.number-index l.numbers)) l.initial.text l.text l.initial.sink l.sink Done
