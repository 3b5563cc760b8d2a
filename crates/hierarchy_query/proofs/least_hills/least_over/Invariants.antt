use Rattle.hierarchy_query.proofs.KnownHills.{LeastSoFar}
use Rattle.hierarchy_query.proofs.least_hills.least_over.Given as goal

abbrev pub invariant-loop-k : goal.invariant-loop-k
invariant-loop-k l = LeastSoFar l.down l.x l.k l.rise l.least l.best
