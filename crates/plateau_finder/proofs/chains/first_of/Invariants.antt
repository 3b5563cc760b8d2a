use Rattle.plateau_finder.proofs.WholeChains.{IsBackSoFar}
use Rattle.plateau_finder.proofs.chains.first_of.Given as goal

abbrev pub invariant-loop-previous : goal.invariant-loop-previous
invariant-loop-previous l = IsBackSoFar l.pair l.fn.v l.first l.near

abbrev pub decreases-loop-previous : goal.decreases-loop-previous
decreases-loop-previous l = l.near
