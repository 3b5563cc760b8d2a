use Rattle.std.proofs.Common.{◌≡◌, ℕ, Some, None, List, length, slice_index, sym, ap, ◌∙◌, subst, arith, rules}
use Rattle.road_model.specs.Graph.{Graph, IsVertex}
use Rattle.road_model.specs.Dist.{IsDist}
use Rattle.hierarchy_build.specs.Parts.{Parts}
use Rattle.hierarchy_build.specs.Hierarchy.{IsHierarchy}
use Rattle.hierarchy_build.specs.Own.{own_graph}
use Rattle.road_model.specs.Oracles.{Questions}
use Rattle.hierarchy_query.proofs.Asks.{least_of_ranks, dist_of_least, none_of_least}
use Rattle.hierarchy_query.proofs.oracle.HierarchyOracleOracle.distance.Goals as goal

pub returns-then-best-ge-NO_LINK-clause-answer : goal.returns-then-best-ge-NO_LINK-clause-answer
returns-then-best-ge-NO_LINK-clause-answer c =
    let same : own_graph c.deref-hierarchy.result.now ≡ c.args.self.now.graph = ap (λ (h : Parts). own_graph h) c.deref-hierarchy.ensures ∙ ap (λ (q : Questions). q.graph) c.self.view_is in
    let is : IsHierarchy (own_graph c.deref-hierarchy.result.now) c.deref-hierarchy.result.now = c.shape-shape.ensures.own.hierarchy in
    let size : length c.deref_mut.result.now ≡ length c.deref-hierarchy.result.now.shape.order = ap (λ (l : List ℕ). length l) c.deref_mut.ensures.value ∙ c.self.invariant.forward_blank.size ∙ ap (λ (h : Parts). length h.shape.order) (sym c.deref-hierarchy.ensures) in
    let ranks : c.as_slice.result.now ≡ c.deref-hierarchy.result.now.shape.rank = search rules in
    let ranks' : c.as_slice-2.result.now ≡ c.deref-hierarchy.result.now.shape.rank = search rules in
    let s : slice_index c.as_slice.result.now c.number.result ≡ slice_index c.deref-hierarchy.result.now.shape.rank c.args.from = ap (λ (l : List ℕ). slice_index l c.number.result) ranks ∙ ap (λ (x : ℕ). slice_index c.deref-hierarchy.result.now.shape.rank x) c.number.ensures.value in
    let t : slice_index c.as_slice-2.result.now c.number-2.result ≡ slice_index c.deref-hierarchy.result.now.shape.rank c.args.to = ap (λ (l : List ℕ). slice_index l c.number-2.result) ranks' ∙ ap (λ (x : ℕ). slice_index c.deref-hierarchy.result.now.shape.rank x) c.number-2.ensures.value in
    let from : IsVertex (own_graph c.deref-hierarchy.result.now).vertices c.args.from = subst (λ (x : Graph). IsVertex x.vertices c.args.from) (sym same) c.requires.from in
    let to : IsVertex (own_graph c.deref-hierarchy.result.now).vertices c.args.to = subst (λ (x : Graph). IsVertex x.vertices c.args.to) (sym same) c.requires.to in
    let least = least_of_ranks (own_graph c.deref-hierarchy.result.now) c.deref-hierarchy.result.now (length c.deref_mut.result.now) (slice_index c.as_slice.result.now c.number.result) (slice_index c.as_slice-2.result.now c.number-2.result) c.least_hill-best.result.0 c.args.from c.args.to size s t c.least_hill-best.ensures.least in
    subst (λ (x : Graph). IsDist x c.args.from c.args.to None) same
    (none_of_least (own_graph c.deref-hierarchy.result.now) c.deref-hierarchy.result.now c.least_hill-best.result.0 c.args.from c.args.to is from to least (omega (arith, c.if-best-ge-NO_LINK.true)))

pub returns-clause-answer : goal.returns-clause-answer
returns-clause-answer c =
    let same : own_graph c.deref-hierarchy.result.now ≡ c.args.self.now.graph = ap (λ (h : Parts). own_graph h) c.deref-hierarchy.ensures ∙ ap (λ (q : Questions). q.graph) c.self.view_is in
    let is : IsHierarchy (own_graph c.deref-hierarchy.result.now) c.deref-hierarchy.result.now = c.shape-shape.ensures.own.hierarchy in
    let size : length c.deref_mut.result.now ≡ length c.deref-hierarchy.result.now.shape.order = ap (λ (l : List ℕ). length l) c.deref_mut.ensures.value ∙ c.self.invariant.forward_blank.size ∙ ap (λ (h : Parts). length h.shape.order) (sym c.deref-hierarchy.ensures) in
    let ranks : c.as_slice.result.now ≡ c.deref-hierarchy.result.now.shape.rank = search rules in
    let ranks' : c.as_slice-2.result.now ≡ c.deref-hierarchy.result.now.shape.rank = search rules in
    let s : slice_index c.as_slice.result.now c.number.result ≡ slice_index c.deref-hierarchy.result.now.shape.rank c.args.from = ap (λ (l : List ℕ). slice_index l c.number.result) ranks ∙ ap (λ (x : ℕ). slice_index c.deref-hierarchy.result.now.shape.rank x) c.number.ensures.value in
    let t : slice_index c.as_slice-2.result.now c.number-2.result ≡ slice_index c.deref-hierarchy.result.now.shape.rank c.args.to = ap (λ (l : List ℕ). slice_index l c.number-2.result) ranks' ∙ ap (λ (x : ℕ). slice_index c.deref-hierarchy.result.now.shape.rank x) c.number-2.ensures.value in
    let from : IsVertex (own_graph c.deref-hierarchy.result.now).vertices c.args.from = subst (λ (x : Graph). IsVertex x.vertices c.args.from) (sym same) c.requires.from in
    let to : IsVertex (own_graph c.deref-hierarchy.result.now).vertices c.args.to = subst (λ (x : Graph). IsVertex x.vertices c.args.to) (sym same) c.requires.to in
    let least = least_of_ranks (own_graph c.deref-hierarchy.result.now) c.deref-hierarchy.result.now (length c.deref_mut.result.now) (slice_index c.as_slice.result.now c.number.result) (slice_index c.as_slice-2.result.now c.number-2.result) c.least_hill-best.result.0 c.args.from c.args.to size s t c.least_hill-best.ensures.least in
    subst (λ (x : Graph). IsDist x c.args.from c.args.to (Some c.least_hill-best.result.0)) same
    (dist_of_least (own_graph c.deref-hierarchy.result.now) c.deref-hierarchy.result.now c.least_hill-best.result.0 c.args.from c.args.to is from to least (omega (arith, c.if-best-ge-NO_LINK.false)))
