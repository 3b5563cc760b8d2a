use Rattle.forward_star.proofs.Batches.{IsChanged}
use Rattle.forward_star.proofs.star.Star.with.Given as goal

abbrev pub invariant-loop-change : goal.invariant-loop-change
invariant-loop-change l = IsChanged l.self l.changes l.change-index l.topology.value l.lengths
