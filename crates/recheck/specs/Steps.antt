-- Steps along the arcs of rows.
--   IsStepDown h rows v a x   a is the number of the arc x of the row of v, which leads to a vertex with a row, with a
--                             label that is lower by the arc's length
--   LeadsAlong h rows root v a w   v isn't the root, a is the arc of its row, and w is its head
--   IsAlong h rows root v a o   o is that head, if there is one
use Rattle.std.specs.Prelude.{◌≡◌, ◌≢◌, ◌+◌, ℕ, Option, Some, None, List}
use Rattle.road_model.specs.declared.rows.ArcRow.{ArcRow}
use Rattle.road_model.specs.Graph.{Graph, arc_at}
use Rattle.certificate_text.specs.declared.certificate.BlockRow.{BlockRow}
use Rattle.recheck.specs.Rows.{row_of}

pub record IsStepDown (h : Graph) (rows : List BlockRow) (v a : ℕ) (x : ArcRow) : Type 0 where
  pub row : BlockRow
  pub is : row_of rows v ≡ Some row
  pub number : row.arc ≡ a
  pub arc : arc_at h a ≡ Some x
  pub next : BlockRow
  pub beyond : row_of rows x.head ≡ Some next
  pub sum : next.label + x.length ≡ row.label

pub record LeadsAlong (h : Graph) (rows : List BlockRow) (root v a head : ℕ) : Type 0 where
  pub row : BlockRow
  pub is : row_of rows v ≡ Some row
  pub number : row.arc ≡ a
  pub other : v ≢ root
  pub arc : ArcRow
  pub found : arc_at h a ≡ Some arc
  pub end : arc.head ≡ head

abbrev pub IsAlong : Graph → List BlockRow → ℕ → ℕ → ℕ → Option ℕ → Type 0
IsAlong h rows root v a None = (head : ℕ) → LeadsAlong h rows root v a head → ⊥
IsAlong h rows root v a (Some head) = LeadsAlong h rows root v a head
