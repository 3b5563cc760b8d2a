use Rattle.std.proofs.Common.{◌≡◌, ℕ, List, Some, None, slice_index, sym, ap, ◌∙◌, subst, arith, rules}
use Rattle.road_model.specs.Graph.{Graph, IsVertex}
use Rattle.road_model.specs.Dist.{IsDist}
use Rattle.hierarchy_build.specs.Parts.{Parts}
use Rattle.hierarchy_build.specs.Own.{own_graph}
use Rattle.hierarchy_query.specs.Sources.{Source, IsAsking}
use Rattle.hierarchy_query.proofs.Sources.{dist_of_source, none_of_source}
use Rattle.hierarchy_query.proofs.distances.DistancesFrom.distance.Goals as goal

pub returns-then-least-ge-NO_LINK-clause-answer : goal.returns-then-least-ge-NO_LINK-clause-answer
returns-then-least-ge-NO_LINK-clause-answer c =
    let graph : own_graph c.deref-hierarchy.result.now ≡ c.args.self.now.graph = ap (λ (h : Parts). own_graph h) c.deref-hierarchy.ensures ∙ ap (λ (s : Source). s.graph) c.self.view_is in
    let source : c.self.inside.source ≡ c.args.self.now.source = ap (λ (s : Source). s.source) c.self.view_is in
    let asking : IsAsking c.deref-hierarchy.result.now c.self.inside.source c.self.inside.hills = subst (λ (h : Parts). IsAsking h c.self.inside.source c.self.inside.hills) (sym c.deref-hierarchy.ensures) c.self.invariant in
    let to : IsVertex (own_graph c.deref-hierarchy.result.now).vertices c.args.to = subst (λ (g : Graph). IsVertex g.vertices c.args.to) (sym graph) c.requires in
    let ranks : c.as_slice.result.now ≡ c.deref-hierarchy.result.now.shape.rank = search rules in
    let rank : slice_index c.as_slice.result.now c.number.result ≡ slice_index c.deref-hierarchy.result.now.shape.rank c.args.to = ap (λ (l : List ℕ). slice_index l c.number.result) ranks ∙ ap (λ (x : ℕ). slice_index c.deref-hierarchy.result.now.shape.rank x) c.number.ensures.value in
    subst (λ (g : Graph). IsDist g c.args.self.now.source c.args.to None) graph
    (subst (λ (v : ℕ). IsDist (own_graph c.deref-hierarchy.result.now) v c.args.to None) source
    (none_of_source c.deref-hierarchy.result.now c.shape.ensures.own.hierarchy c.self.inside.source c.args.to (slice_index c.as_slice.result.now c.number.result) c.in_ok-least.least c.self.inside.hills asking to rank c.in_ok-least.ensures.least (omega (arith, c.if-least-ge-NO_LINK.true))))

pub returns-clause-answer : goal.returns-clause-answer
returns-clause-answer c =
    let graph : own_graph c.deref-hierarchy.result.now ≡ c.args.self.now.graph = ap (λ (h : Parts). own_graph h) c.deref-hierarchy.ensures ∙ ap (λ (s : Source). s.graph) c.self.view_is in
    let source : c.self.inside.source ≡ c.args.self.now.source = ap (λ (s : Source). s.source) c.self.view_is in
    let asking : IsAsking c.deref-hierarchy.result.now c.self.inside.source c.self.inside.hills = subst (λ (h : Parts). IsAsking h c.self.inside.source c.self.inside.hills) (sym c.deref-hierarchy.ensures) c.self.invariant in
    let to : IsVertex (own_graph c.deref-hierarchy.result.now).vertices c.args.to = subst (λ (g : Graph). IsVertex g.vertices c.args.to) (sym graph) c.requires in
    let ranks : c.as_slice.result.now ≡ c.deref-hierarchy.result.now.shape.rank = search rules in
    let rank : slice_index c.as_slice.result.now c.number.result ≡ slice_index c.deref-hierarchy.result.now.shape.rank c.args.to = ap (λ (l : List ℕ). slice_index l c.number.result) ranks ∙ ap (λ (x : ℕ). slice_index c.deref-hierarchy.result.now.shape.rank x) c.number.ensures.value in
    subst (λ (g : Graph). IsDist g c.args.self.now.source c.args.to (Some c.in_ok-least.least)) graph
    (subst (λ (v : ℕ). IsDist (own_graph c.deref-hierarchy.result.now) v c.args.to (Some c.in_ok-least.least)) source
    (dist_of_source c.deref-hierarchy.result.now c.shape.ensures.own.hierarchy c.self.inside.source c.args.to (slice_index c.as_slice.result.now c.number.result) c.in_ok-least.least c.self.inside.hills asking to rank c.in_ok-least.ensures.least (omega (arith, c.if-least-ge-NO_LINK.false))))
