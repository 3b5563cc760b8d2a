use Rattle.std.proofs.Common.{◌-◌, length}
use Rattle.hierarchy_query.proofs.Meets.{Meeting}
use Rattle.hierarchy_query.proofs.climb.meet.Given as goal

abbrev pub invariant-up : goal.invariant-up
invariant-up l = Meeting l.first l.head l.forward l.backward l.x l.best

abbrev pub decreases-up : goal.decreases-up
decreases-up l = length l.forward - l.x
