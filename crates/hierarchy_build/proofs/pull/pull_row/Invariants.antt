use Rattle.hierarchy_build.proofs.Pulls.{PulledSoFar}
use Rattle.hierarchy_build.proofs.pull.pull_row.Given as goal

abbrev pub invariant-loop-j : goal.invariant-loop-j
invariant-loop-j l = PulledSoFar l.ranks l.first l.head l.fn.up l.fn.down l.up l.down l.v l.i l.j l.at
