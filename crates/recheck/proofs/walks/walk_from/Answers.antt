use Rattle.recheck.proofs.FollowLemmas.{WalksTo-end}
use Rattle.recheck.proofs.walks.walk_from.Goals as goal

pub returns : goal.returns
returns g c = WalksTo-end (g.N.Network.graph c.args.net.now) c.args.rows.now c.args.root c.args.v c.loop-at.at c.loop-at.walk.items c.loop-at.invariant c.loop-at-test.false
