use Rattle.std.proofs.Common.{take}
use Rattle.road_io.specs.declared.writing.Put.TheVariants.{Done}
use Rattle.road_text.specs.Pieces.{Appends}
use Rattle.line_front.specs.Replies.{arcs_text}
use Rattle.line_front.proofs.items.put_arcs.Given as goal

abbrev pub invariant-loop-arc : goal.invariant-loop-arc
invariant-loop-arc g l = Appends g.K.Sink.written g.K.Sink.faults (arcs_text (take l.arc-index l.arcs)) l.initial.sink l.sink Done
