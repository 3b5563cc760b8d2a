use Rattle.tree_tests.proofs.Climbs.{OnClimb}
use Rattle.tree_tests.proofs.sums.climbed.Given as goal

abbrev pub invariant-loop-rest : goal.invariant-loop-rest
invariant-loop-rest l = OnClimb l.pair l.side l.ascending l.fn.v l.at l.near l.sum

abbrev pub decreases-loop-rest : goal.decreases-loop-rest
decreases-loop-rest l = l.near
