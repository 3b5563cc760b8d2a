use Rattle.recheck.proofs.DetourLemmas.{IsLeftToWalk}
use Rattle.recheck.proofs.detours.is_walk.Given as goal

abbrev pub invariant-loop-a : goal.invariant-loop-a
invariant-loop-a l = IsLeftToWalk l.star l.fn.from l.arcs l.to l.a-index l.at
