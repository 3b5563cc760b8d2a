use Rattle.std.proofs.Common.{ℕ, sym, subst}
use Rattle.plateau_finder.specs.Links.{IsChainBack}
use Rattle.plateau_finder.proofs.WholeChains.{inside_both, own_plateau}
use Rattle.plateau_finder.proofs.finding.plateau_through.Goals as goal

pub returns : goal.returns
returns c =
    own_plateau c.args.pair.now c.args.v c.plateau_from.result
    (inside_both c.args.pair.now c.args.v c.in-Some._near c.in-Some-to_label._left c.in-Some.ensures.label c.in-Some-to_label.ensures.label)
    (subst (λ (v : ℕ). IsChainBack c.args.pair.now c.args.v v) (sym c.plateau_from.ensures.first) c.first_of-first.ensures)
    c.plateau_from.ensures.chain
