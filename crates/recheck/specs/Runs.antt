-- Runs: the vertices that one path leads through, one after the other along its arcs.
--   label_of rows v     the label of the vertex's row, and 0 where it has none
--   IsLinked o u v      one arc leads from u to v, and both the row of u to the target and that of v from the source have it
--   IsLinkedBack o v u  the same, read from v
--   IsStep R u x        Some: R leads from u to that vertex; None: to none
--   Leads R u n v       n steps of R lead from u to v
--   IsRun R v end least   R leads from v to its end, and the least vertex on the way, v and the end among them, is so
--   IsWholeRun R v end least   and no step of R leads on from the end
use Rattle.std.specs.Prelude.{◌≡◌, ◌≤◌, ℕ, zero, suc, List, Option, Some, None}
use Rattle.road_model.specs.declared.rows.ArcRow.{ArcRow}
use Rattle.road_model.specs.Graph.{arc_at}
use Rattle.certificate_text.specs.declared.certificate.BlockRow.{BlockRow}
use Rattle.recheck.specs.Rows.{row_of}
use Rattle.recheck.specs.Paths.{Ground}

abbrev pub row_label : Option BlockRow → ℕ
row_label None = 0
row_label (Some r) = r.label

abbrev pub label_of : List BlockRow → ℕ → ℕ
label_of rows v = row_label (row_of rows v)

pub record IsLinked (o : Ground) (u v : ℕ) : Type 0 where
  pub out : BlockRow
  pub into : BlockRow
  pub arc : ArcRow
  pub is_out : row_of o.to_rows u ≡ Some out
  pub is_into : row_of o.from_rows v ≡ Some into
  pub same : into.arc ≡ out.arc
  pub is : arc_at o.graph out.arc ≡ Some arc
  pub tail : arc.tail ≡ u
  pub head : arc.head ≡ v

abbrev pub IsLinkedBack : Ground → ℕ → ℕ → Type 0
IsLinkedBack o v u = IsLinked o u v

abbrev pub IsStep : (ℕ → ℕ → Type 0) → ℕ → Option ℕ → Type 0
IsStep R u None = (v : ℕ) → R u v → ⊥
IsStep R u (Some v) = R u v

abbrev pub Leads : (ℕ → ℕ → Type 0) → ℕ → ℕ → ℕ → Type 0
Leads R u zero v = u ≡ v
Leads R u (suc n) v = (m : ℕ) × R u m × Leads R m n v

pub record IsRun (R : ℕ → ℕ → Type 0) (v end least : ℕ) : Type 0 where
  pub steps : ℕ
  pub leads : Leads R v steps end
  pub place : ℕ
  pub member : Leads R v place least
  pub lowest : (k w : ℕ) → k ≤ steps → Leads R v k w → least ≤ w

pub record IsWholeRun (R : ℕ → ℕ → Type 0) (v end least : ℕ) : Type 0 where
  pub run : IsRun R v end least
  pub ended : IsStep R end None
