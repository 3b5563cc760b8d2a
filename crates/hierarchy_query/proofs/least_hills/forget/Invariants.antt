use Rattle.std.proofs.Common.{length}
use Rattle.hierarchy_query.proofs.KnownHills.{Forgetting}
use Rattle.hierarchy_query.proofs.least_hills.forget.Given as goal

abbrev pub invariant-loop-x : goal.invariant-loop-x
invariant-loop-x l = Forgetting (length l.fn.least) l.found l.x-index l.least
