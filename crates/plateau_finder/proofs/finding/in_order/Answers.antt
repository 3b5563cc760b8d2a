use Rattle.std.proofs.Common.{rules, List, sym, subst}
use Rattle.std.specs.Prelude.{IsPermutation}
use Rattle.std.specs.List.Sorted.{IsNonDecreasingBy}
use Rattle.std.proofs.lemmas.List.Sorted.{IsNonDecreasingBy-from_sort_by_key}
use Rattle.plateau_finder.specs.declared.plateau.Plateau.{Plateau}
use Rattle.plateau_finder.proofs.finding.in_order.Goals as goal

pub returns : goal.returns
returns c =
    subst (λ (l : List Plateau). IsPermutation c.args.found.items l × IsNonDecreasingBy (λ (x : Plateau). x.least) l) (sym c.from_vec.ensures)
    (c.in_ok-sort_by_key.ensures.permutation, IsNonDecreasingBy-from_sort_by_key (λ (x : Plateau). x.least) _ c.in_ok-sort_by_key.ensures.sorted (λ a r q k. search rules))
