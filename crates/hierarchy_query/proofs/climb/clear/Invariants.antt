use Rattle.std.proofs.Common.{◌-◌, length}
use Rattle.hierarchy_query.proofs.Meets.{Clearing}
use Rattle.hierarchy_query.proofs.climb.clear.Given as goal

abbrev pub invariant-up : goal.invariant-up
invariant-up l = Clearing (length l.fn.labels) l.first l.head l.x l.labels

abbrev pub decreases-up : goal.decreases-up
decreases-up l = length l.labels - l.x
