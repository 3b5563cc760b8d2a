use Rattle.plateau_finder.proofs.WholeChains.{IsChainSoFar}
use Rattle.plateau_finder.proofs.chains.plateau_from.Given as goal

abbrev pub invariant-loop-next : goal.invariant-loop-next
invariant-loop-next l = IsChainSoFar l.pair l.first l.last l.least l.left

abbrev pub decreases-loop-next : goal.decreases-loop-next
decreases-loop-next l = l.left
