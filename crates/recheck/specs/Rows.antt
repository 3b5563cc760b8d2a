-- Blocks and their rows.
--   toward k g          the graph in which the walks of a block lead to its root: that of walks from a root is turned round
--   row_of rows v       the first row of the vertex
--   block_of bs k root  the first block of the direction and the root
--   rows_in b           the rows of a block, where there is one
--   HasRow rows v       the vertex has a row
--   HasRowBelow rows v k   it has one whose label is at most k
--   HasLabel rows v k   it has one with the label k
--   LeadsOn h rows r a  the arc a leads from the vertex of the row r to one that has a row
--   IsTightFor h rows r a   and the label there and the length of the arc make the label of r
--   IsLeastFor h rows r   no arc that is tight for r has a lower number than that of r
--   IsRootRow root r    r is the root's row exactly where its arc is 0, and has the label 0 then
--   IsClosed h radius rows   an arc to a row's vertex, within the radius, comes from a vertex that has a row, with no
--                       greater label than that along the arc
--   HasBlock bs k root  there is a block of the direction and the root
--   Reaches bs k root P   and its radius is at least each number that P holds of
-- All but the last two speak of walks to a root.
use Rattle.std.specs.Prelude.{◌≡◌, ◌≤◌, ◌+◌, ◌↔◌, ◌==◌, ◌&&◌, ℕ, Bool, true, false, List, [], ◌∷◌, Option, Some, None, Contains, if◌then◌else◌}
use Rattle.road_model.specs.declared.rows.ArcRow.{ArcRow}
use Rattle.road_model.specs.Graph.{Graph, arc_at, reversed}
use Rattle.tree_search.specs.Ball.{IsWithin}
use Rattle.certificate_text.specs.declared.certificate.BlockKind.{BlockKind}
use Rattle.certificate_text.specs.declared.certificate.BlockKind.TheVariants as kind
use Rattle.certificate_text.specs.declared.certificate.BlockRow.{BlockRow}
use Rattle.certificate_text.specs.declared.certificate.Block.{Block}

abbrev pub toward : BlockKind → Graph → Graph
toward kind.From g = reversed g
toward kind.To g = g

abbrev pub row_of : List BlockRow → ℕ → Option BlockRow
row_of [] v = None
row_of (r ∷ rs) v = if r.vertex == v then Some r else row_of rs v

abbrev pub same_kind : BlockKind → BlockKind → Bool
same_kind kind.From kind.From = true
same_kind kind.From kind.To = false
same_kind kind.To kind.From = false
same_kind kind.To kind.To = true

abbrev pub block_of : List Block → BlockKind → ℕ → Option Block
block_of [] k root = None
block_of (b ∷ bs) k root = if same_kind b.kind k && b.root == root then Some b else block_of bs k root

abbrev pub rows_in : Option Block → List BlockRow
rows_in None = []
rows_in (Some b) = b.rows

pub record HasRow (rows : List BlockRow) (v : ℕ) : Type 0 where
  pub row : BlockRow
  pub is : row_of rows v ≡ Some row

pub record HasRowBelow (rows : List BlockRow) (v k : ℕ) : Type 0 where
  pub row : BlockRow
  pub is : row_of rows v ≡ Some row
  pub low : row.label ≤ k

pub record HasLabel (rows : List BlockRow) (v k : ℕ) : Type 0 where
  pub row : BlockRow
  pub is : row_of rows v ≡ Some row
  pub label : row.label ≡ k

pub record LeadsOn (h : Graph) (rows : List BlockRow) (r : BlockRow) (a : ℕ) : Type 0 where
  pub arc : ArcRow
  pub is : arc_at h a ≡ Some arc
  pub tail : arc.tail ≡ r.vertex
  pub next : BlockRow
  pub beyond : row_of rows arc.head ≡ Some next

pub record IsTightFor (h : Graph) (rows : List BlockRow) (r : BlockRow) (a : ℕ) : Type 0 where
  pub leads : LeadsOn h rows r a
  pub sum : leads.next.label + leads.arc.length ≡ r.label

abbrev pub IsLeastFor : Graph → List BlockRow → BlockRow → Type 0
IsLeastFor h rows r = (b : ℕ) → IsTightFor h rows r b → r.arc ≤ b

pub record IsRootRow (root : ℕ) (r : BlockRow) : Type 0 where
  pub alone : (r.vertex ≡ root) ↔ (r.arc ≡ 0)
  pub nothing : r.arc ≡ 0 → r.label ≡ 0

abbrev pub IsClosed : Graph → Option ℕ → List BlockRow → Type 0
IsClosed h radius rows = (r : BlockRow) (a : ℕ) (x : ArcRow) → Contains rows r → arc_at h a ≡ Some x → x.head ≡ r.vertex →
    IsWithin radius (r.label + x.length) → HasRowBelow rows x.tail (r.label + x.length)

pub record HasBlock (bs : List Block) (k : BlockKind) (root : ℕ) : Type 0 where
  pub block : Block
  pub is : block_of bs k root ≡ Some block

pub record Reaches (bs : List Block) (k : BlockKind) (root : ℕ) (P : ℕ → Type 0) : Type 0 where
  pub block : Block
  pub is : block_of bs k root ≡ Some block
  pub room : (n : ℕ) → P n → IsWithin block.radius n
