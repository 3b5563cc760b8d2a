-- How a graph is gathered line by line.
--   IsSound         the arcs so far fit the problem, and there are no more than it says
--   IsAfter         the problem and the arcs so far are those of these lines, and so many lines came
--   AddsLine            what one line did: the gathering is that of the lines with this one, or the line has this fault
--   Ends            what comes of it at the end of the file
use Rattle.std.specs.Prelude.{◌≡◌, ℕ, ◌≤◌, List, [], ◌∷◌, ◌++◌, None, Some, Result, Ok, Err, length, All}
use Rattle.road_model.specs.declared.rows.ArcRow.{ArcRow}
use Rattle.road_model.specs.declared.graph_file.TheConstants.{MAX_VERTICES, MAX_ARCS, MAX_LENGTH}
use Rattle.road_model.specs.Graph.{Graph, IsArc}
use Rattle.dimacs_reader.specs.declared.fault.GraphError.{GraphError}
use Rattle.dimacs_reader.specs.declared.fault.GraphError.TheVariants as error
use Rattle.dimacs_reader.specs.declared.builder.Builder.{Builder}
use Rattle.dimacs_reader.specs.Gr.{problem_in, arcs_in, vertices_of, arcs_promised, fault_of, fault_at, end_fault}

pub record IsSound (builder : Builder) : Type 0 where
  pub few_vertices : vertices_of builder.problem ≤ MAX_VERTICES
  pub few_arcs : arcs_promised builder.problem ≤ MAX_ARCS
  pub rows : All (IsArc (vertices_of builder.problem)) builder.arcs.items
  pub short : All (λ (r : ArcRow). r.length ≤ MAX_LENGTH) builder.arcs.items
  pub counted : length builder.arcs.items ≤ arcs_promised builder.problem

pub record IsAfter (lines : List (List ℕ)) (builder : Builder) : Type 0 where
  pub problem : builder.problem ≡ problem_in lines
  pub arcs : builder.arcs.items ≡ arcs_in lines
  pub count : builder.lines ≡ length lines

abbrev pub AddsLine : List (List ℕ) → List ℕ → Builder → Result Unit GraphError → Type 0
AddsLine before line new (Ok done) = (fault_of before line ≡ None) × IsAfter (before ++ line ∷ []) new
AddsLine before line new (Err (error.Refused fault)) = (kind : _) × (fault_of before line ≡ Some kind) × (fault ≡ fault_at before kind)
AddsLine before line new (Err error.ReadFault) = ⊥
AddsLine before line new (Err error.NoMemory) = Unit {0}

abbrev pub Ends : List (List ℕ) → Result Graph GraphError → Type 0
Ends lines (Ok graph) = (end_fault lines ≡ None) × (graph.vertices ≡ vertices_of (problem_in lines)) × (graph.arcs ≡ arcs_in lines)
Ends lines (Err (error.Refused fault)) = (kind : _) × (end_fault lines ≡ Some kind) × (fault ≡ fault_at lines kind)
Ends lines (Err error.ReadFault) = ⊥
Ends lines (Err error.NoMemory) = ⊥
