use Rattle.std.proofs.Common.{◌≡◌, ◌++◌, ◌∷◌, [], List, IfSome, sym, ap, ◌∙◌, subst}
use Rattle.std.proofs.lemmas.Option.{IfSome_then}
use Rattle.road_model.specs.declared.change.Change.{Change}
use Rattle.road_model.specs.Graph.{Graph}
use Rattle.road_model.specs.Changes.{after, after_all}
use Rattle.hierarchy_build.specs.Hierarchy.{IsShapeOf}
use Rattle.route_engine.specs.Lineage.{Serves, graph_of}
use Rattle.route_engine.proofs.Batches.{after_all-append, IsShapeOf-after}
use Rattle.route_engine.proofs.prepared.Prepared.followed_by.Goals as goal

pub renewed-requires : goal.renewed-requires
renewed-requires c =
    let view : graph_of (record { base = c.self.inside.base.value; history = c.self.inside.past }) ≡ graph_of c.args.self.now = ap graph_of c.self.view_is in
    let before : c.self.inside.star.value ≡ graph_of c.args.self.now = c.self.invariant.0 ∙ view in
    let is : after c.self.inside.star.value c.args.changes.now ≡ c.args.star = ap (λ (g : Graph). after g c.args.changes.now) before ∙ sym c.requires.star in
    IfSome_then c.self.inside.hierarchy c.self.invariant.1 (λ h s.
    let P : Graph → Type 0 = λ g. IsShapeOf g h.value.shape in
    subst P is (IsShapeOf-after c.self.inside.star.value h.value.shape c.args.changes.now s.shape))

pub invariant_of-result : goal.invariant_of-result
invariant_of-result c =
    let star : c.in_ok-star.star.value ≡ c.args.star = c.in_ok-star.ensures.ok in
    let base : c.in_ok-base.base.value ≡ c.self.inside.base.value = c.in_ok-base.ensures in
    let past : c.in_ok-past.past ≡ c.self.inside.past ++ c.args.changes.now ∷ [] = c.in_ok-past.ensures in
    let before : graph_of c.args.self.now ≡ after_all c.self.inside.base.value c.self.inside.past = ap graph_of (sym c.self.view_is) in
    let all : after (graph_of c.args.self.now) c.args.changes.now ≡ after_all c.self.inside.base.value (c.self.inside.past ++ c.args.changes.now ∷ []) =
    ap (λ (g : Graph). after g c.args.changes.now) before ∙ sym (after_all-append c.self.inside.base.value c.self.inside.past c.args.changes.now) in
    let P : Graph → Type 0 = λ g. IfSome c.in_ok-hierarchy.hierarchy (λ h. Serves g h.value) in (
      star ∙ c.requires.star ∙ all
          ∙ ap (λ (g : Graph). after_all g (c.self.inside.past ++ c.args.changes.now ∷ [])) (sym base)
          ∙ ap (λ (h : List (List Change)). after_all c.in_ok-base.base.value h) (sym past),
      subst P (sym star) c.in_ok-hierarchy.ensures,
    )
