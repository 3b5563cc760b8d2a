use Rattle.std.proofs.Common.{◌∙◌, Some, List, ℕ, sym, ap, subst, arith}
use Rattle.std.proofs.lemmas.List.{take_all}
use Rattle.canonical_trees.specs.Trees.{Trees}
use Rattle.plateau_finder.specs.declared.plateau.Plateau.{Plateau}
use Rattle.plateau_finder.specs.Plateaus.{IsListedPlateau}
use Rattle.tree_tests.specs.Sums.{Shares}
use Rattle.via_search.specs.Settings.{Givens, trees_of}
use Rattle.via_search.specs.Sifting.{SiftsTo, AreSifted}
use Rattle.via_search.proofs.Gathering.{gathers_none, gathers_some}
use Rattle.via_search.proofs.sifting.sift_all.Goals as goal
use Rattle.via_search.proofs.sifting.sift_all.Goals.{in-Some+in_ok-push, in_default}

pub loop-plateau-init : goal.loop-plateau-init
loop-plateau-init c =
    let shares : Trees → List ℕ → Shares = λ ts o. record { trees = ts; optimum = o } in
    let trees = c.setting.invariant.trees ∙ ap (λ (y : Givens). trees_of y) c.setting.view_is in
    record {
      sifted = c.new-left.ensures.items;
      sums = c.in_ok-sums.ensures ∙ (ap (λ (ts : Trees). shares ts c.setting.inside.optimum.now.arcs) trees ∙ ap (λ (y : Givens). shares (trees_of c.args.setting.now) y.optimum.arcs) c.setting.view_is);
      ways = c.in_ok-ways.ensures ∙ trees;
    }

pub sift-requires : goal.sift-requires
sift-requires c =
    let s = c.args.setting.now in
    record {
      bound = c.requires.bound;
      sums = c.loop-plateau.invariant.sums;
      ways = c.loop-plateau.invariant.ways;
      listed = subst (λ (x : Plateau). IsListedPlateau (trees_of s) (Some s.reach) x) (sym c.plateau-item.is) (c.requires.plateaus c.loop-plateau.plateau-index c.plateau-item.result c.loop-plateau-test.true);
    }

pub loop-plateau-preserved : goal.loop-plateau-preserved
loop-plateau-preserved c =
    let s = c.args.setting.now in
    record {
      sifted = elim c.match-branch-4.branch [
        | in-Some+in_ok-push w ↦
            gathers_some (SiftsTo s) c.args.plateaus.now c.loop-plateau.plateau-index c.plateau-item.result c.loop-plateau.left.items c.match-branch-4.left.items c.in_ok-sifted.field-0 w.in-Some.sifted c.loop-plateau-test.true c.plateau-item.is c.loop-plateau.invariant.sifted c.in_ok-sifted.ensures.sifted w.in-Some.is (ap (λ x. x.items) w.left-is ∙ w.in_ok-push.ensures.items)
        | in_default w ↦
            gathers_none (SiftsTo s) c.args.plateaus.now c.loop-plateau.plateau-index c.plateau-item.result c.loop-plateau.left.items c.match-branch-4.left.items c.in_ok-sifted.field-0 c.loop-plateau-test.true c.plateau-item.is c.loop-plateau.invariant.sifted c.in_ok-sifted.ensures.sifted w.in_default.is (ap (λ x. x.items) w.left-is)
      ];
      sums = c.sift.ensures.sums ∙ c.loop-plateau.invariant.sums;
      ways = c.sift.ensures.ways ∙ c.loop-plateau.invariant.ways;
    }

pub returns : goal.returns
returns c =
    subst (λ (l : List Plateau). AreSifted c.args.setting.now l c.loop-plateau.left.items) (take_all c.loop-plateau.plateau-index c.args.plateaus.now (omega arith)) c.loop-plateau.invariant.sifted
