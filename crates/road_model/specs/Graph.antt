-- A graph, its arcs by number and by tail.
--   Graph          a number of vertices and a list of arcs; the vertices are 1 to that number
--   rows_of g      the arcs, in the order of their numbers; every other word reads the list by it
--   arc_count g    how many there are
--   arc_at g a     the arc of number a; arc k is the k-th of the list, counted from 1
--   row_length o, row_head o   the length or the head of an arc, and 0 where there is none
--   length_at g a  its length, and 0 where there is no such arc
--   head_at g a    its head, and 0 where there is no such arc
--   IsVertex n v   v is one of the vertices 1 to n
--   IsArc n r      both ends are vertices, and the length is above 0
--   IsGraph g      each arc of the list is one
--   LengthsBelow g m  each length is below m
--   step_of k r    the arc of number k, as a step
--   steps_from v k rs   the steps out of v among these arcs, the first of which has the number k
--   step_at g v i  the i-th arc out of v, counted from 0, by rising arc number
--   turned r       the arc turned round
--   reversed g     the graph with each arc turned round, under its old number
use Rattle.std.specs.Prelude.{◌<◌, ◌≤◌, ◌+◌, ℕ, zero, suc, List, [], ◌∷◌, length, Option, Some, None, slice_get, map, All, if◌then◌else◌, ◌==◌}
use Rattle.road_model.specs.declared.rows.ArcRow.{ArcRow}
use Rattle.road_model.specs.declared.network.Step.{Step}

pub record Graph : Type 0 where
  pub vertices : ℕ
  pub arcs : List ArcRow

abbrev pub rows_of : Graph → List ArcRow
rows_of g = g.arcs

abbrev pub arc_count : Graph → ℕ
arc_count g = length (rows_of g)

abbrev pub arc_at : Graph → ℕ → Option ArcRow
arc_at g zero = None
arc_at g (suc k) = slice_get (rows_of g) k

abbrev pub row_length : Option ArcRow → ℕ
row_length None = 0
row_length (Some r) = r.length

abbrev pub row_head : Option ArcRow → ℕ
row_head None = 0
row_head (Some r) = r.head

abbrev pub length_at : Graph → ℕ → ℕ
length_at g a = row_length (arc_at g a)

abbrev pub head_at : Graph → ℕ → ℕ
head_at g a = row_head (arc_at g a)

pub record IsVertex (n v : ℕ) : Type 0 where
  pub first : 1 ≤ v
  pub last : v ≤ n

pub record IsArc (n : ℕ) (r : ArcRow) : Type 0 where
  pub tail : IsVertex n r.tail
  pub head : IsVertex n r.head
  pub positive : 1 ≤ r.length

abbrev pub IsGraph : Graph → Type 0
IsGraph g = All (IsArc g.vertices) (rows_of g)

abbrev pub LengthsBelow : Graph → ℕ → Type 0
LengthsBelow g m = All (λ (r : ArcRow). r.length < m) (rows_of g)

abbrev pub step_of : ℕ → ArcRow → Step
step_of k r = record { arc = k; head = r.head; length = r.length }

-- the arcs out of v among these, the first of which has the number k
abbrev pub steps_from : ℕ → ℕ → List ArcRow → List Step
steps_from v k [] = []
steps_from v k (r ∷ rs) = if r.tail == v then step_of k r ∷ steps_from v (k + 1) rs else steps_from v (k + 1) rs

abbrev pub step_at : Graph → ℕ → ℕ → Option Step
step_at g v i = slice_get (steps_from v 1 (rows_of g)) i

abbrev pub turned : ArcRow → ArcRow
turned r = record { tail = r.head; head = r.tail; length = r.length }

abbrev pub reversed : Graph → Graph
reversed g = record { vertices = g.vertices; arcs = map turned (rows_of g) }
