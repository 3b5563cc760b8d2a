use Rattle.std.proofs.Common.{◌≡◌, ℕ, drop}
use Rattle.std.specs.Ordering.{nat_cmp}
use Rattle.std.specs.BTreeMap.{get}
use Rattle.recheck.specs.Rows.{row_of}
use Rattle.recheck.proofs.row_table.first_rows.Given as goal

abbrev pub invariant-loop-i : goal.invariant-loop-i
invariant-loop-i l = (v : ℕ) → get nat_cmp l.firsts v ≡ row_of (drop l.i l.rows) v
