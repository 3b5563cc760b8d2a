-- How a text is gathered, by how far it was read.
--   Gathers     the gathering is that of the lines that were read, none of which has a fault
--   GathersAll  the same where they are all lines of the text
--   GathersOn   what one step of the reader made of it
use Rattle.std.specs.Prelude.{◌≡◌, ℕ, List, [], ◌++◌, None, Result, Ok, Err}
use Rattle.road_text.specs.declared.line_reader.LineReader.{LineReader}
use Rattle.road_text.specs.Reader.{held, budget}
use Rattle.road_text.specs.Progress.{IsBeyond, IsRead}
use Rattle.dimacs_reader.specs.declared.fault.GraphError.{GraphError}
use Rattle.dimacs_reader.specs.declared.builder.Builder.{Builder}
use Rattle.dimacs_reader.specs.declared.builder.Gathered.{Gathered}
use Rattle.dimacs_reader.specs.declared.builder.Gathered.TheVariants.{More, All}
use Rattle.dimacs_reader.specs.declared.line.TheConstants.{MAX_FILE}
use Rattle.dimacs_reader.specs.Gr.{first_fault}
use Rattle.dimacs_reader.specs.Building.{IsAfter}
use Rattle.dimacs_reader.specs.Reads.{ReadsGraph}

pub record Gathers (spare : ℕ) (text rest : List ℕ) (builder : Builder) : Type 0 where
  pub before : List (List ℕ)
  pub beyond : IsBeyond MAX_FILE spare text rest before
  pub after : IsAfter before builder
  pub clean : first_fault [] before ≡ None

pub record GathersAll (text : List ℕ) (builder : Builder) : Type 0 where
  pub all : List (List ℕ)
  pub read : IsRead MAX_FILE text all
  pub after : IsAfter all builder
  pub clean : first_fault [] all ≡ None

abbrev pub GathersOn : LineReader → List ℕ → List ℕ → Builder → Result Gathered GraphError → Type 0
GathersOn reader text rest builder (Ok More) = Gathers (budget reader) text (held reader ++ rest) builder
GathersOn reader text rest builder (Ok All) = GathersAll text builder
GathersOn reader text rest builder (Err error) = ReadsGraph text rest (Err error)
