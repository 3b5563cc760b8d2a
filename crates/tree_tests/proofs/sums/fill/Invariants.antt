use Rattle.tree_tests.proofs.Climbs.{OnFill}
use Rattle.tree_tests.proofs.sums.fill.Given as goal

abbrev pub invariant-loop-side : goal.invariant-loop-side
invariant-loop-side l = OnFill l.pair l.side l.ascending l.at l.near l.left l.sums

abbrev pub decreases-loop-side : goal.decreases-loop-side
decreases-loop-side l = l.near
