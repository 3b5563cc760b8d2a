use Rattle.std.proofs.Common.{◌≡◌, ◌↔◌, ◌∙◌, ℕ, List, IsTrue, refl, sym, ap, subst, arith}
use Rattle.std.proofs.lemmas.Bool.{iff_false}
use Rattle.road_model.specs.Fraction.{Allows}
use Rattle.road_model.specs.Alternatives.{IsVia}
use Rattle.tree_tests.specs.Never.{IsNever}
use Rattle.tree_tests.specs.Sums.{Shares, carried}
use Rattle.via_search.specs.Candidates.{IsPosed}
use Rattle.via_search.specs.Settings.{Givens}
use Rattle.via_search.proofs.PlateauPaths.{not_optimum_route, shares_too_much, refused_after, refused_before}
use Rattle.via_search.proofs.sifting.sift.Goals as goal

pub returns-then-number-clause-sifted : goal.returns-then-number-clause-sifted
returns-then-number-clause-sifted c =
    let s = c.args.setting.now in
    let plateau = c.args.plateau.now in
    let posed = subst (λ (y : Givens). IsPosed y.graph y.query y.optimum) c.setting.view_is c.setting.invariant.posed in
    let to = c.number-2.ensures.value ∙ ap (λ (y : Givens). y.query.to) c.setting.view_is in
    not_optimum_route s.graph s.query s.optimum s.reach plateau posed (omega (arith, c.number.ensures.value, to, c.if-number.true))

pub returns-then-not-within_share-clause-sifted : goal.returns-then-not-within_share-clause-sifted
returns-then-not-within_share-clause-sifted c =
    let s = c.args.setting.now in
    let plateau = c.args.plateau.now in
    let posed = subst (λ (y : Givens). IsPosed y.graph y.query y.optimum) c.setting.view_is c.setting.invariant.posed in
    let within = subst (λ (y : Givens). IsTrue c.within_share.result ↔ Allows y.query.gamma c.through-shared.result y.optimum.length) c.setting.view_is c.within_share.ensures in
    shares_too_much s.graph s.query s.optimum s.reach c.through-shared.result plateau c.args.sums.now posed c.requires.bound c.requires.sums c.through-shared.ensures.sum (iff_false within c.if-not-within_share.true)

pub returns-then-branch-clause-sifted : goal.returns-then-branch-clause-sifted
returns-then-branch-clause-sifted c =
    let s = c.args.setting.now in
    let plateau = c.args.plateau.now in
    let posed = subst (λ (y : Givens). IsPosed y.graph y.query y.optimum) c.setting.view_is c.setting.invariant.posed in
    let ways = c.args.ways.now in
    let never = subst (λ (y : Givens). IsNever ways y.query y.optimum.length plateau.last) c.setting.view_is (c.in_ok-refuses_after.ensures.never c.if-branch.true) in
    refused_after s.graph s.query s.optimum s.reach plateau ways c.requires.ways posed never

pub returns-then-branch-2-clause-sifted : goal.returns-then-branch-2-clause-sifted
returns-then-branch-2-clause-sifted c =
    let s = c.args.setting.now in
    let plateau = c.args.plateau.now in
    let posed = subst (λ (y : Givens). IsPosed y.graph y.query y.optimum) c.setting.view_is c.setting.invariant.posed in
    let ways = c.refuses_after.new.self in
    let never = subst (λ (y : Givens). IsNever ways y.query y.optimum.length plateau.first) c.setting.view_is (c.in_ok-refuses_before.ensures.never c.if-branch-2.true) in
    refused_before s.graph s.query s.optimum s.reach plateau ways (c.refuses_after.ensures.same ∙ c.requires.ways) posed never

pub returns-clause-sifted : goal.returns-clause-sifted
returns-clause-sifted c =
    let s = c.args.setting.now in
    let plateau = c.args.plateau.now in
    let to = c.number-2.ensures.value ∙ ap (λ (y : Givens). y.query.to) c.setting.view_is in
    let within = subst (λ (y : Givens). IsTrue c.within_share.result ↔ Allows y.query.gamma c.through-shared.result y.optimum.length) c.setting.view_is c.within_share.ensures in
    let shared = c.through-shared.result in (
      refl,
      record {
        listed = c.requires.listed;
        other = (λ (e : plateau.last ≡ s.query.to). c.if-number.false (c.number.ensures.value ∙ (e ∙ sym to)));
        is_shared = subst (λ (h : Shares). (p : List ℕ) → IsVia h.trees.graph h.trees.source h.trees.target plateau.least p → shared ≡ carried h.trees.graph h.optimum p) c.requires.sums c.through-shared.ensures.sum;
        allowed = within.0 c.if-not-within_share.false;
      },
    )
