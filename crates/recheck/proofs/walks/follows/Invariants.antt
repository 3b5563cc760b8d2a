use Rattle.recheck.proofs.FollowLemmas.{IsLeft}
use Rattle.recheck.proofs.walks.follows.Given as goal

abbrev pub invariant-loop-a : goal.invariant-loop-a
invariant-loop-a g l = IsLeft (g.N.Network.graph l.net) l.rows l.root l.fn.v l.arcs l.a-index l.at
