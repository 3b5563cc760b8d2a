use Rattle.std.proofs.Common.{◌≡◌}
use Rattle.worked_searches.proofs.searches.distances_of.Given as goal

abbrev pub invariant-loop-pair : goal.invariant-loop-pair
invariant-loop-pair l = l.oracle.graph ≡ l.star
