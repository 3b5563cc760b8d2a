-- The text of a graph file: what it says, and the first thing that is wrong with it.
--   is_byte b c             there is a byte, and it is c
--   is_comment line         its first byte that isn't blank is `c`
--   field_at fields i       the i-th field, counted from 0, or an empty one
--   is_field fields i word  it is this word
--   number_at fields i      the number that it is, where it is one
--   value_at fields i       the same, and 0 where it is none
--   problem_from fields, arc_from fields   what the fields of a line say, by its first field: a problem, or an arc
--   problem_of line         what a line `p sp N M` says
--   arc_of line             the arc of a line `a U V W`
--   problem_in lines        what the first problem line among these says
--   arcs_in lines           the arcs of these lines, in their order
--   vertices_of problem, arcs_promised problem   the numbers of a problem line, and 0 where there is none
--   first_failing checks    the fault of the first check that fails; each says whether it does, and with which fault
--   is_above n most         there is a number, and it is above this one
--   is_zero n               there is a number, and it is 0
--   is_outside n last       there is a number, and it is none of 1 to last
--   problem_fault, arc_fault   the first check that fails for the fields of a problem line, or of an arc line
--   fields_fault            the same of any line that is no comment and not too long
--   line_fault              the first check that fails for a line, after this problem and so many arcs
--   fault_of before line    the same after these lines
--   fault_at before kind    the fault of this kind, at the line after these
--   or_later before kind later   that fault, where there is one; else the later one
--   first_fault before lines  the first of these lines that has a fault, with its number, where so many lines came
--                           before
--   end_fault lines         what is missing after these lines, which are all
--   graph_or fault graph    the fault, where there is one; else the graph
--   graph_of lines          the graph of the file of these lines, or its first fault
--   long_text lines         the first fault of these lines, where the file is too long and they are those that end
--                           within the limit; else its length
--   gr_text text            the same of a whole text
-- Lines, fields and numbers are cut as the specifications of road_text say. Lines are counted from 1. A
-- value is meant only where no check before it fails; 0 and the empty list stand in elsewhere.
use Rattle.std.specs.Prelude.{ℕ, ◌+◌, ◌==◌, ◌||◌, not, Bool, false, List, [], ◌∷◌, ◌++◌, Option, Some, None, Result, Ok, Err, length, take, codes, slice_index_or, unwrap_or, is_some, is_none, nat_lt, nat_le, if◌then◌else◌}
use Rattle.std.specs.List.{filter_map}
use Rattle.std.specs.Option.{option_or}
use Rattle.std.specs.Str.{bytes_eq}
use Rattle.road_model.specs.declared.rows.ArcRow.{ArcRow}
use Rattle.road_model.specs.declared.graph_file.TheConstants.{MAX_VERTICES, MAX_ARCS, MAX_LENGTH}
use Rattle.road_model.specs.Graph.{Graph}
use Rattle.road_text.specs.Lines.{lines_of, whole_lines}
use Rattle.road_text.specs.Fields.{fields_of, first_byte}
use Rattle.road_text.specs.Numbers.{number_of}
use Rattle.dimacs_reader.specs.declared.fault.GraphKind.{GraphKind}
use Rattle.dimacs_reader.specs.declared.fault.GraphKind.TheVariants.{NoProblem, SecondProblem, BadLine, BadNumber, VertexRange, LengthZero, LengthLarge, TooManyArcs, TooFewArcs, LimitVertices, LimitArcs, LineLong, FileLong}
use Rattle.dimacs_reader.specs.declared.fault.GraphFault.{GraphFault}
use Rattle.dimacs_reader.specs.declared.line.Problem.{Problem}
use Rattle.dimacs_reader.specs.declared.line.TheConstants.{MAX_LINE, MAX_FILE}

-- ---- what a line says

abbrev pub is_byte : Option ℕ → ℕ → Bool
is_byte None c = false
is_byte (Some b) c = b == c

unfoldable pub is_comment : List ℕ → Bool
is_comment line = is_byte (first_byte line) 99

abbrev pub field_at : List (List ℕ) → ℕ → List ℕ
field_at fields i = slice_index_or fields i []

abbrev pub is_field : List (List ℕ) → ℕ → List ℕ → Bool
is_field fields i word = bytes_eq (field_at fields i) word

abbrev pub number_at : List (List ℕ) → ℕ → Option ℕ
number_at fields i = number_of (field_at fields i)

abbrev pub value_at : List (List ℕ) → ℕ → ℕ
value_at fields i = unwrap_or (number_at fields i) 0

abbrev pub problem_from : List (List ℕ) → Option Problem
problem_from fields =
    if is_field fields 0 (codes "p") then Some (record { vertices = value_at fields 2; arcs = value_at fields 3 })
    else None

abbrev pub arc_from : List (List ℕ) → Option ArcRow
arc_from fields =
    if is_field fields 0 (codes "a") then Some (record { tail = value_at fields 1; head = value_at fields 2; length = value_at fields 3 })
    else None

unfoldable pub problem_of : List ℕ → Option Problem
problem_of line = if is_comment line then None else problem_from (fields_of line)

unfoldable pub arc_of : List ℕ → Option ArcRow
arc_of line = if is_comment line then None else arc_from (fields_of line)

unfoldable pub problem_in : List (List ℕ) → Option Problem
problem_in [] = None
problem_in (line ∷ lines) = option_or (problem_of line) (problem_in lines)

unfoldable pub arcs_in : List (List ℕ) → List ArcRow
arcs_in lines = filter_map arc_of lines

abbrev pub vertices_of : Option Problem → ℕ
vertices_of None = 0
vertices_of (Some problem) = problem.vertices

abbrev pub arcs_promised : Option Problem → ℕ
arcs_promised None = 0
arcs_promised (Some problem) = problem.arcs

-- ---- what is wrong with it

-- each check says whether it fails, and with which fault
abbrev pub first_failing : List (Bool × GraphKind) → Option GraphKind
first_failing [] = None
first_failing (check ∷ checks) = if check.0 then Some check.1 else first_failing checks

abbrev pub is_above : Option ℕ → ℕ → Bool
is_above None most = false
is_above (Some n) most = nat_lt most n

abbrev pub is_zero : Option ℕ → Bool
is_zero None = false
is_zero (Some n) = n == 0

-- it is none of the numbers 1 to last
abbrev pub is_outside : Option ℕ → ℕ → Bool
is_outside n last = is_zero n || is_above n last

abbrev pub problem_fault : Option Problem → List (List ℕ) → Option GraphKind
problem_fault problem fields = first_failing (
    (is_some problem, SecondProblem)
    ∷ (not (length fields == 4) || not (is_field fields 1 (codes "sp")), BadLine)
    ∷ (is_none (number_at fields 2) || is_none (number_at fields 3), BadNumber)
    ∷ (is_above (number_at fields 2) MAX_VERTICES, LimitVertices)
    ∷ (is_above (number_at fields 3) MAX_ARCS, LimitArcs)
    ∷ [])

abbrev pub arc_fault : Option Problem → ℕ → List (List ℕ) → Option GraphKind
arc_fault problem count fields = first_failing (
    (is_none problem, NoProblem)
    ∷ (nat_le (arcs_promised problem) count, TooManyArcs)
    ∷ (not (length fields == 4), BadLine)
    ∷ (is_none (number_at fields 1) || (is_none (number_at fields 2) || is_none (number_at fields 3)), BadNumber)
    ∷ (is_outside (number_at fields 1) (vertices_of problem) || is_outside (number_at fields 2) (vertices_of problem), VertexRange)
    ∷ (is_zero (number_at fields 3), LengthZero)
    ∷ (is_above (number_at fields 3) MAX_LENGTH, LengthLarge)
    ∷ [])

abbrev pub fields_fault : Option Problem → ℕ → List (List ℕ) → Option GraphKind
fields_fault problem count [] = None
fields_fault problem count (word ∷ values) =
    if bytes_eq word (codes "p") then problem_fault problem (word ∷ values)
    else (if bytes_eq word (codes "a") then arc_fault problem count (word ∷ values)
    else Some BadLine)

unfoldable pub line_fault : Option Problem → ℕ → List ℕ → Option GraphKind
line_fault problem count line =
    if is_comment line then None
    else (if nat_lt MAX_LINE (length line) then Some LineLong
    else fields_fault problem count (fields_of line))

unfoldable pub fault_of : List (List ℕ) → List ℕ → Option GraphKind
fault_of before line = line_fault (problem_in before) (length (arcs_in before)) line

-- ---- the first fault of a file

abbrev pub fault_at : List (List ℕ) → GraphKind → GraphFault
fault_at before kind = record { line = length before + 1; kind = kind }

abbrev pub or_later : List (List ℕ) → Option GraphKind → Option GraphFault → Option GraphFault
or_later before None later = later
or_later before (Some kind) later = Some (fault_at before kind)

unfoldable pub first_fault : List (List ℕ) → List (List ℕ) → Option GraphFault
first_fault before [] = None
first_fault before (line ∷ lines) = or_later before (fault_of before line) (first_fault (before ++ line ∷ []) lines)

unfoldable pub end_fault : List (List ℕ) → Option GraphKind
end_fault lines = first_failing (
    (is_none (problem_in lines), NoProblem)
    ∷ (nat_lt (length (arcs_in lines)) (arcs_promised (problem_in lines)), TooFewArcs)
    ∷ [])

abbrev pub graph_or : Option GraphFault → Graph → Result Graph GraphFault
graph_or None graph = Ok graph
graph_or (Some fault) graph = Err fault

unfoldable pub graph_of : List (List ℕ) → Result Graph GraphFault
graph_of lines =
    graph_or (option_or (first_fault [] lines) (or_later lines (end_fault lines) None))
    (record { vertices = vertices_of (problem_in lines); arcs = arcs_in lines })

-- a file that is too long: a fault of the lines that end within the limit, else the length itself
unfoldable pub long_text : List (List ℕ) → Result Graph GraphFault
long_text lines =
    graph_or (option_or (first_fault [] lines) (Some (fault_at lines FileLong)))
    (record { vertices = 0; arcs = [] })

unfoldable pub gr_text : List ℕ → Result Graph GraphFault
gr_text text =
    if nat_le (length text) MAX_FILE then graph_of (lines_of text)
    else long_text (whole_lines (take MAX_FILE text))
