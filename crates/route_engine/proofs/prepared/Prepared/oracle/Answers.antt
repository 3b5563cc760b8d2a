use Rattle.std.proofs.Common.{◌≡◌, sym, ap, ◌∙◌}
use Rattle.forward_star.proofs.Bound.{dists_below}
use Rattle.road_model.specs.Oracles.{Questions}
use Rattle.route_engine.specs.Lineage.{graph_of}
use Rattle.route_engine.proofs.Batches.{HaveSameDist-same}
use Rattle.route_engine.proofs.prepared.Prepared.oracle.Goals as goal

pub in_memory-requires-in-None-clause-near : goal.in_memory-requires-in-None-clause-near
in_memory-requires-in-None-clause-near c = dists_below _ c.within_limits.ensures

pub returns-in_ok-oracle-in-None : goal.returns-in_ok-oracle-in-None
returns-in_ok-oracle-in-None c =
    let own : c.in_ok-oracle-in-None.oracle.graph ≡ c.star-star.result.now = ap (λ (q : Questions). q.graph) c.in_ok-oracle-in-None.ensures in
    HaveSameDist-same (graph_of c.args.self.now) c.in_ok-oracle-in-None.oracle.graph (sym (own ∙ c.star-star.ensures))
