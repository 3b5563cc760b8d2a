use Rattle.std.proofs.Common.{ℕ, List, Option, map, ap, ◌∙◌, subst, sym}
use Rattle.road_model.specs.Canonical.{IsFirst}
use Rattle.tree_search.specs.Ball.{label_within, IsFoundTo, IsLabelledTo}
use Rattle.canonical_trees.proofs.Bounds.{near}
use Rattle.canonical_trees.proofs.WholePaths.{rooted_found, labelled_found, length_found}
use Rattle.canonical_trees.proofs.path.optimum_in.Goals as goal

pub labels_to-requires-clause-near : goal.labels_to-requires-clause-near
labels_to-requires-clause-near c = near c.args.star.now c.within_limits.ensures

pub path_from-requires-clause-rooted : goal.path_from-requires-clause-rooted
path_from-requires-clause-rooted c =
    let values = c.labels_to.new.memory.labels.items in
    let hit : IsLabelledTo c.args.star.now c.args.s c.args.t values c.in-Some.length = subst (λ (o : Option ℕ). IsFoundTo c.args.star.now c.args.s c.args.t values o) c.in-Some.is c.in_ok-length.ensures.found in
    rooted_found c.args.star.now c.args.s c.args.t c.in-Some.length values c.new-labels.result c.within_limits.ensures hit
    (c.new-labels.ensures ∙ ap (λ (l : List ℕ). map (label_within c.in-Some.length) l) c.deref.ensures.value)

pub path_from-requires-clause-labelled : goal.path_from-requires-clause-labelled
path_from-requires-clause-labelled c =
    let values = c.labels_to.new.memory.labels.items in
    let hit : IsLabelledTo c.args.star.now c.args.s c.args.t values c.in-Some.length = subst (λ (o : Option ℕ). IsFoundTo c.args.star.now c.args.s c.args.t values o) c.in-Some.is c.in_ok-length.ensures.found in
    labelled_found c.args.star.now c.args.s c.args.t c.in-Some.length values c.new-labels.result hit
    (c.new-labels.ensures ∙ ap (λ (l : List ℕ). map (label_within c.in-Some.length) l) c.deref.ensures.value)

pub returns-clause-found : goal.returns-clause-found
returns-clause-found c =
    let values = c.labels_to.new.memory.labels.items in
    let hit : IsLabelledTo c.args.star.now c.args.s c.args.t values c.in-Some.length = subst (λ (o : Option ℕ). IsFoundTo c.args.star.now c.args.s c.args.t values o) c.in-Some.is c.in_ok-length.ensures.found in
    let first : IsFirst c.args.star.now c.args.s c.from_vec.result c.args.t = subst (λ (p : List ℕ). IsFirst c.args.star.now c.args.s p c.args.t) (sym c.from_vec.ensures) c.in_ok-arcs.ensures in
    (first, (length_found c.args.star.now c.args.s c.args.t c.in-Some.length values c.within_limits.ensures hit).every c.from_vec.result first)

pub returns-clause-short : goal.returns-clause-short
returns-clause-short c =
    let values = c.labels_to.new.memory.labels.items in
    let hit : IsLabelledTo c.args.star.now c.args.s c.args.t values c.in-Some.length = subst (λ (o : Option ℕ). IsFoundTo c.args.star.now c.args.s c.args.t values o) c.in-Some.is c.in_ok-length.ensures.found in
    (length_found c.args.star.now c.args.s c.args.t c.in-Some.length values c.within_limits.ensures hit).short
