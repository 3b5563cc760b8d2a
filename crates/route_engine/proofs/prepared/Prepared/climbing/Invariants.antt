use Rattle.std.proofs.Common.{◌≡◌, length, All}
use Rattle.road_model.specs.Dist.{HaveSameDist}
use Rattle.route_engine.specs.Lineage.{graph_of}
use Rattle.route_engine.proofs.prepared.Prepared.climbing.Given as goal

abbrev pub invariant-loop : goal.invariant-loop
invariant-loop l = (length l.oracles.items ≡ l.counter)
    × All (λ o. HaveSameDist (graph_of l.self) o.graph) l.oracles.items
