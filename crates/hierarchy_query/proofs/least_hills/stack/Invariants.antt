use Rattle.std.proofs.Common.{◌-◌, length}
use Rattle.hierarchy_query.proofs.KnownHills.{Stacking}
use Rattle.hierarchy_query.proofs.least_hills.stack.Given as goal

abbrev pub invariant-up : goal.invariant-up
invariant-up l = Stacking (length l.least) l.first l.head l.x l.fn.found.items l.found.items l.y

abbrev pub decreases-up : goal.decreases-up
decreases-up l = length l.least - l.y
