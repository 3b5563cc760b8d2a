use Rattle.hierarchy_build.proofs.Pushes.{RowSoFar}
use Rattle.hierarchy_build.proofs.push.push_row.Given as goal

abbrev pub invariant-loop-j : goal.invariant-loop-j
invariant-loop-j l = RowSoFar l.ranks l.first l.head l.fn.up l.fn.down l.up l.down l.v l.i l.j l.at
