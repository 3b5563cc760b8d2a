use Rattle.std.proofs.Common.{◌-◌, ◌≡◌, ◌≤◌, length, take, drop}
use Rattle.std.specs.Prelude.{None}
use Rattle.recheck.specs.Rows.{row_of}
use Rattle.recheck.proofs.rows.find_row.Given as goal

abbrev pub invariant-loop-low : goal.invariant-loop-low
invariant-loop-low l = record {
  order : l.low ≤ l.high;
  inside : l.high ≤ length l.rows;
  before : row_of (take l.low l.rows) l.vertex ≡ None;
  later_line : row_of (drop l.high l.rows) l.vertex ≡ None;
}

abbrev pub decreases-loop-low : goal.decreases-loop-low
decreases-loop-low l = l.high - l.low
