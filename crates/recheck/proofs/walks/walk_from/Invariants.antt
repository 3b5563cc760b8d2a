use Rattle.recheck.specs.Rows.{row_of}
use Rattle.recheck.proofs.FollowLemmas.{WalksTo, label_of}
use Rattle.recheck.proofs.walks.walk_from.Given as goal

abbrev pub invariant-loop-at : goal.invariant-loop-at
invariant-loop-at g l = WalksTo (g.N.Network.graph l.net) l.rows l.root l.fn.v l.at l.walk.items

abbrev pub decreases-loop-at : goal.decreases-loop-at
decreases-loop-at g l = label_of (row_of l.rows l.at)
