-- What the tests on rows decide, as they walk along the arcs of a vertex.
--   IsSumBeyond h rows r o   the label beyond the arc of the row r and the arc's length; None where the arc doesn't lead on
--   IsTightStep rows label s   the label beyond the step s and its length make the label
--   IsClosedAt m b r         each arc to the vertex of r, within the radius, comes from a vertex that has a row with no greater
--                            label than that along the arc; m is the graph turned round
--   AreClosed m b            so it is at each row
--   IsTreeFault h b line o   o is the first fault of the rows of b, from the line on, and of its end
use Rattle.std.specs.Prelude.{◌≡◌, ◌+◌, ℕ, List, length, Option, Some, None, Contains}
use Rattle.road_model.specs.declared.network.Step.{Step}
use Rattle.road_model.specs.Graph.{Graph, step_at}
use Rattle.tree_search.specs.Ball.{IsWithin}
use Rattle.certificate_text.specs.declared.certificate.BlockRow.{BlockRow}
use Rattle.certificate_text.specs.declared.certificate.Block.{Block}
use Rattle.certificate_text.specs.declared.fault.CertFault.{CertFault}
use Rattle.recheck.specs.Rows.{row_of, HasRowBelow, LeadsOn}
use Rattle.recheck.specs.Checks.{done, FindsFirst, rows_checks, end_checks}

abbrev pub IsSumBeyond : Graph → List BlockRow → BlockRow → Option ℕ → Type 0
IsSumBeyond h rows r None = LeadsOn h rows r r.arc → ⊥
IsSumBeyond h rows r (Some n) = (on : LeadsOn h rows r r.arc) × (n ≡ on.next.label + on.arc.length)

pub record IsTightStep (rows : List BlockRow) (label : ℕ) (s : Step) : Type 0 where
  pub next : BlockRow
  pub beyond : row_of rows s.head ≡ Some next
  pub sum : next.label + s.length ≡ label

abbrev pub IsClosedAt : Graph → Block → BlockRow → Type 0
IsClosedAt m b r = (i : ℕ) (s : Step) → step_at m r.vertex i ≡ Some s → IsWithin b.radius (r.label + s.length) → HasRowBelow b.rows s.head (r.label + s.length)

abbrev pub AreClosed : Graph → Block → Type 0
AreClosed m b = (r : BlockRow) → Contains b.rows r → IsClosedAt m b r

abbrev pub IsTreeFault : Graph → Block → ℕ → Option CertFault → Type 0
IsTreeFault h b line o = FindsFirst (rows_checks h b line 0 b.rows (end_checks h b (line + length b.rows) done)) o
