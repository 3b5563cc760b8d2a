use Rattle.std.proofs.Common.{◌≡◌, ◌+◌, ◌∙◌, ℕ, List, Option, sym, ap, subst, length, slice_index, arith}
use Rattle.std.proofs.lemmas.List.{get_or_read}
use Rattle.road_model.specs.Graph.{Graph}
use Rattle.road_model.specs.Dist.{IsDist}
use Rattle.hierarchy_build.specs.Own.{own_graph}
use Rattle.hierarchy_query.specs.Tables.{AreDists}
use Rattle.hierarchy_query.specs.Sources.{Source}
use Rattle.hierarchy_query.proofs.DistanceLists.{DistsSoFar, DistsSoFar-more, AreDists-all}
use Rattle.hierarchy_query.proofs.tables.one_to_many.Goals as goal

pub loop-target-preserved : goal.loop-target-preserved
loop-target-preserved c =
    let target : c.target-item.result ≡ slice_index c.args.targets.now c.loop-target.target-index =
    get_or_read c.args.targets.now c.loop-target.target-index c.target-item.result c.loop-target-test.true c.target-item.is 0 in
    let here : IsDist (own_graph c.args.hierarchy.value) c.args.from c.target-item.result c.in_ok-distance.distance =
    subst (λ (g : Graph). IsDist g c.args.from c.target-item.result c.in_ok-distance.distance) c.loop-target.invariant.graph
    (subst (λ (v : ℕ). IsDist c.loop-target.known.graph v c.target-item.result c.in_ok-distance.distance) c.loop-target.invariant.source c.in_ok-distance.ensures.answer) in
    record {
      graph = ap (λ (s : Source). s.graph) c.in_ok-distance.ensures.same ∙ c.loop-target.invariant.graph;
      source = ap (λ (s : Source). s.source) c.in_ok-distance.ensures.same ∙ c.loop-target.invariant.source;
      dists = subst (λ (ds : List (Option ℕ)). DistsSoFar (own_graph c.args.hierarchy.value) c.args.from c.args.targets.now (c.loop-target.target-index + 1) ds) (sym c.in_ok-push.ensures.items)
          (DistsSoFar-more (own_graph c.args.hierarchy.value) c.args.from c.args.targets.now c.loop-target.target-index c.target-item.result c.loop-target.distances.items c.in_ok-distance.distance target c.loop-target.invariant.dists here);
    }

pub returns : goal.returns
returns c =
    let all : c.loop-target.target-index ≡ length c.args.targets.now = omega (arith, c.loop-target-test.false) in
    subst (λ (ds : List (Option ℕ)). AreDists (own_graph c.args.hierarchy.value) c.args.from c.args.targets.now ds) (sym c.from_vec.ensures)
    (AreDists-all (own_graph c.args.hierarchy.value) c.args.from c.args.targets.now c.loop-target.target-index c.loop-target.distances.items all c.loop-target.invariant.dists)
