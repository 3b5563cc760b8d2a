use Rattle.std.proofs.Common.{take}
use Rattle.road_io.specs.declared.writing.Put.TheVariants.{Done}
use Rattle.certificate_text.specs.Parts.{blocks_text}
use Rattle.certificate_text.specs.Putting.{PutsOn}
use Rattle.certificate_text.proofs.write.put_blocks.Given as goal

abbrev pub invariant-loop-block : goal.invariant-loop-block
invariant-loop-block g l = PutsOn g.K.Sink.written g.K.Sink.faults (blocks_text (take l.block-index l.blocks)) l.initial.text l.text l.initial.sink l.sink Done
