use Rattle.std.proofs.Common.{All}
use Rattle.road_model.specs.Dist.{HaveSameDist}
use Rattle.worked_walks.proofs.forked.oracles_of.Given as goal

abbrev pub invariant-loop : goal.invariant-loop
invariant-loop l = All (λ o. HaveSameDist l.star o.graph) l.oracles.items
