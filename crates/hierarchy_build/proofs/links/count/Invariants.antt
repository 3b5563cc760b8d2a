use Rattle.std.proofs.Common.{◌≤◌}
use Rattle.hierarchy_build.proofs.links.count.Given as goal

abbrev pub invariant-loop-k : goal.invariant-loop-k
invariant-loop-k l = l.many ≤ l.k
