use Rattle.std.proofs.Common.{take}
use Rattle.std.specs.List.{All}
use Rattle.recheck.specs.RowTests.{IsClosedAt}
use Rattle.recheck.proofs.row_tests.is_closed.Given as goal

abbrev pub invariant-loop-row : goal.invariant-loop-row
invariant-loop-row g l = All (IsClosedAt (g.M.Network.graph l.away) l.table) (take l.row-index l.table.rows)
