use Rattle.hierarchy_build.proofs.Ranks.{RanksSoFar}
use Rattle.hierarchy_build.proofs.shape.ranks_of.Given as goal

abbrev pub invariant-loop-r : goal.invariant-loop-r
invariant-loop-r l = RanksSoFar l.order l.r l.rank.items
