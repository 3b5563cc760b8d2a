use Rattle.hierarchy_query.proofs.Climbs.{RelaxedSoFar}
use Rattle.hierarchy_query.proofs.climb.relax.Given as goal

abbrev pub invariant-loop-k : goal.invariant-loop-k
invariant-loop-k l = RelaxedSoFar l.links l.x l.k l.fn.labels l.labels
