-- What is found of one line, after a problem and a count of arcs.
--   IsProblem      the numbers of a problem line are within the limits
--   FitsProblem    the arc fits the problem, which has room for one more after so many
--   row_fault      the first of the last three checks of an arc line, by its numbers
--   JudgesRow      the finding fits these numbers
--   JudgesFields   the finding fits the fields of a line that is no comment
--   Judges         it fits the line
use Rattle.std.specs.Prelude.{◌≡◌, ℕ, ◌<◌, ◌≤◌, ◌||◌, List, [], ◌∷◌, Option, Some, None}
use Rattle.road_model.specs.declared.graph_file.TheConstants.{MAX_VERTICES, MAX_ARCS, MAX_LENGTH}
use Rattle.road_model.specs.declared.rows.ArcRow.{ArcRow}
use Rattle.road_model.specs.Graph.{IsArc}
use Rattle.dimacs_reader.specs.declared.fault.GraphKind.{GraphKind}
use Rattle.dimacs_reader.specs.declared.fault.GraphKind.TheVariants.{VertexRange, LengthZero, LengthLarge}
use Rattle.dimacs_reader.specs.declared.line.Problem.{Problem}
use Rattle.dimacs_reader.specs.declared.line.Judged.{Judged}
use Rattle.dimacs_reader.specs.declared.line.Judged.TheVariants.{Wrong, Nothing, NewProblem, NewArc}
use Rattle.dimacs_reader.specs.Gr.{problem_from, arc_from, problem_of, arc_of, fields_fault, line_fault, vertices_of, arcs_promised, first_failing, is_outside, is_zero, is_above}

pub record IsProblem (problem : Problem) : Type 0 where
  pub few_vertices : problem.vertices ≤ MAX_VERTICES
  pub few_arcs : problem.arcs ≤ MAX_ARCS

-- the arc fits the problem, which has room for one more
pub record FitsProblem (problem : Option Problem) (count : ℕ) (row : ArcRow) : Type 0 where
  pub arc : IsArc (vertices_of problem) row
  pub short : row.length ≤ MAX_LENGTH
  pub room : count < arcs_promised problem

-- an arc by its three numbers
abbrev pub row_fault : ℕ → ℕ → ℕ → ℕ → Option GraphKind
row_fault vertices tail head len = first_failing (
    (is_outside (Some tail) vertices || is_outside (Some head) vertices, VertexRange)
    ∷ (is_zero (Some len), LengthZero)
    ∷ (is_above (Some len) MAX_LENGTH, LengthLarge)
    ∷ [])

abbrev pub JudgesRow : ℕ → ℕ → ℕ → ℕ → Judged → Type 0
JudgesRow vertices tail head len (Wrong kind) = row_fault vertices tail head len ≡ Some kind
JudgesRow vertices tail head len Nothing = ⊥
JudgesRow vertices tail head len (NewProblem new) = ⊥
JudgesRow vertices tail head len (NewArc row) =
    (row_fault vertices tail head len ≡ None) × (row ≡ record { tail = tail; head = head; length = len })
    × IsArc vertices row × (row.length ≤ MAX_LENGTH)

abbrev pub JudgesFields : Option Problem → ℕ → List (List ℕ) → Judged → Type 0
JudgesFields problem count fields (Wrong kind) = fields_fault problem count fields ≡ Some kind
JudgesFields problem count fields Nothing =
    (fields_fault problem count fields ≡ None) × (problem_from fields ≡ None) × (arc_from fields ≡ None)
JudgesFields problem count fields (NewProblem new) =
    (fields_fault problem count fields ≡ None) × (problem_from fields ≡ Some new) × (arc_from fields ≡ None)
    × (problem ≡ None) × IsProblem new
JudgesFields problem count fields (NewArc row) =
    (fields_fault problem count fields ≡ None) × (problem_from fields ≡ None) × (arc_from fields ≡ Some row)
    × FitsProblem problem count row

abbrev pub Judges : Option Problem → ℕ → List ℕ → Judged → Type 0
Judges problem count line (Wrong kind) = line_fault problem count line ≡ Some kind
Judges problem count line Nothing =
    (line_fault problem count line ≡ None) × (problem_of line ≡ None) × (arc_of line ≡ None)
Judges problem count line (NewProblem new) =
    (line_fault problem count line ≡ None) × (problem_of line ≡ Some new) × (arc_of line ≡ None)
    × (problem ≡ None) × IsProblem new
Judges problem count line (NewArc row) =
    (line_fault problem count line ≡ None) × (problem_of line ≡ None) × (arc_of line ≡ Some row)
    × FitsProblem problem count row
