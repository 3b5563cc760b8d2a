use Rattle.std.proofs.Common.{◌≡◌, ◌++◌, ◌∷◌, [], length, All, List, sym, ap, ◌∙◌, subst, arith, length-append}
use Rattle.std.proofs.lemmas.List.Elements.{All-push}
use Rattle.road_model.specs.Graph.{Graph}
use Rattle.road_model.specs.Dist.{HaveSameDist}
use Rattle.road_model.specs.Oracles.{Questions}
use Rattle.hierarchy_build.specs.Own.{own_graph}
use Rattle.route_engine.specs.Lineage.{graph_of}
use Rattle.route_engine.proofs.prepared.Prepared.climbing.Goals as goal

pub loop-preserved : goal.loop-preserved
loop-preserved c =
    let g : Graph = graph_of c.args.self.now in
    let more : c.push.new.self.items ≡ c.loop.oracles.items ++ c.in_ok-oracle.oracle ∷ [] = c.in_ok-push.ensures.items in
    let one : c.in_ok-oracle.oracle.graph ≡ own_graph c.args.hierarchy.now.value =
    ap (λ (q : Questions). q.graph) c.in_ok-oracle.ensures.oracle ∙ ap own_graph c.in_ok-hierarchy.ensures in
    let same : HaveSameDist g c.in_ok-oracle.oracle.graph = subst (HaveSameDist g) (sym one) c.requires.dists in (
      omega (arith, ap length more, length-append c.loop.oracles.items (c.in_ok-oracle.oracle ∷ []), c.loop.invariant.0),
      subst (All (λ o. HaveSameDist g o.graph)) (sym more) (All-push (λ o. HaveSameDist g o.graph) c.loop.oracles.items c.in_ok-oracle.oracle c.loop.invariant.1 same),
    )
