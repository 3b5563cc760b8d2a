use Rattle.std.proofs.Common.{◌≡◌, ℕ, ◌+◌, ◌≤◌, List, ◌++◌}
use Rattle.road_io.specs.Told.{IfTold}
use Rattle.road_text.specs.Reader.{held, budget, limit_of}
use Rattle.dimacs_reader.specs.declared.line.TheConstants.{MAX_LINE, MAX_FILE}
use Rattle.dimacs_reader.specs.Building.{IsSound}
use Rattle.dimacs_reader.specs.Gathering.{Gathers}
use Rattle.dimacs_reader.proofs.read.read_graph.Given as goal

abbrev pub invariant-lines : goal.invariant-lines
invariant-lines g l = record {
  sound : IsSound l.builder;
  limit : limit_of l.reader ≡ MAX_LINE;
  few : l.builder.lines + budget l.reader ≤ MAX_FILE;
  told : IfTold (g.S.Source.left l.initial.source) (g.S.Source.left l.source) (λ (text rest : List ℕ). Gathers (budget l.reader) text (held l.reader ++ rest) l.builder);
  quiet : g.S.Source.faults l.source ≡ g.S.Source.faults l.initial.source;
  unpicked : g.S.Source.picked l.source ≡ g.S.Source.picked l.initial.source;
}

abbrev pub decreases-lines : goal.decreases-lines
decreases-lines g l = budget l.reader
