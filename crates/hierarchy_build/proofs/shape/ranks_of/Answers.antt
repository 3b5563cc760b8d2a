use Rattle.std.proofs.Common.{arith}
use Rattle.hierarchy_build.proofs.Ranks.{IsRanked-all}
use Rattle.hierarchy_build.proofs.shape.ranks_of.Goals as goal

pub returns : goal.returns
returns c = IsRanked-all c.args.order.now c.loop-r.r c.loop-r.rank.items c.requires.order (omega arith) c.loop-r.invariant
