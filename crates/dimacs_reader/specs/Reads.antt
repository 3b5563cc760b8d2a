-- What reading a graph answers, of a source that tells its bytes.
--   text   the bytes that the source had left when the call began
--   rest   those that it has left when the call ends
--   IsCutShort text rest     a read failed after some bytes of the text, whose whole lines have no fault
--   ReadsGraph text rest r   the answer is the graph of the text, or its first fault, or that a read failed so
-- Where memory was refused nothing more is said.
use Rattle.std.specs.Prelude.{◌≡◌, ℕ, List, [], ◌++◌, None, Result, Ok, Err}
use Rattle.road_model.specs.Graph.{Graph}
use Rattle.road_text.specs.Lines.{whole_lines}
use Rattle.dimacs_reader.specs.declared.fault.GraphError.{GraphError}
use Rattle.dimacs_reader.specs.declared.fault.GraphError.TheVariants.{Refused, ReadFault, NoMemory}
use Rattle.dimacs_reader.specs.Gr.{gr_text, first_fault}

-- a read failed after these bytes, whose whole lines have no fault
pub record IsCutShort (text rest : List ℕ) : Type 0 where
  pub taken : List ℕ
  pub is : text ≡ taken ++ rest
  pub faultless : first_fault [] (whole_lines taken) ≡ None

abbrev pub ReadsGraph : List ℕ → List ℕ → Result Graph GraphError → Type 0
ReadsGraph text rest (Ok graph) = gr_text text ≡ Ok graph
ReadsGraph text rest (Err (Refused fault)) = gr_text text ≡ Err fault
ReadsGraph text rest (Err ReadFault) = IsCutShort text rest
ReadsGraph text rest (Err NoMemory) = Unit {0}
