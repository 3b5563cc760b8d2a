use Rattle.std.proofs.Common.{sym, ap, ◌∙◌, subst}
use Rattle.canonical_trees.specs.Trees.{Trees}
use Rattle.plateau_finder.specs.Plateaus.{IsInBoth}
use Rattle.via_search.specs.Settings.{Givens, trees_of}
use Rattle.via_search.specs.Through.{NamesPath}
use Rattle.via_search.proofs.PathsThrough.{not_outside}
use Rattle.via_search.proofs.verdicts.name_of.Goals as goal

pub unreachable-requires : goal.unreachable-requires
unreachable-requires c =
    let trees = c.setting.invariant.trees ∙ ap (λ (x : Givens). trees_of x) c.setting.view_is in
    let inside = subst (λ (ts : Trees). IsInBoth ts c.args.via) (sym trees) c.requires in
    not_outside c.setting.inside.pair.now c.args.via inside c.in_default.ensures

pub returns : goal.returns
returns c =
    let trees = c.setting.invariant.trees ∙ ap (λ (x : Givens). trees_of x) c.setting.view_is in
    subst (λ (ts : Trees). NamesPath ts c.args.via c.in-Some.plateau.least) trees
    (λ p via within. (c.in-Some.ensures.is p via).is_name within)
