use Rattle.std.proofs.Common.{◌≡◌, ℕ, List, ◌++◌}
use Rattle.road_io.specs.Sink.{Writes}
use Rattle.road_io.specs.declared.writing.Put.TheVariants.{Done}
use Rattle.road_io.specs.Buffers.{pending}
use Rattle.dimacs_reader.proofs.WriteLemmas.{text_upto}
use Rattle.dimacs_reader.proofs.write.write_graph.Given as goal

abbrev pub invariant-loop-row : goal.invariant-loop-row
invariant-loop-row g l = (sent : List ℕ) × record {
  parts : sent ++ pending l.text ≡ text_upto l.graph l.row-index;
  written : Writes sent (g.K.Sink.written l.initial.sink) (g.K.Sink.written l.sink) Done;
  quiet : g.K.Sink.faults l.sink ≡ g.K.Sink.faults l.initial.sink;
}
