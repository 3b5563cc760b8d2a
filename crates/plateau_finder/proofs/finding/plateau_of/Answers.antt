use Rattle.std.proofs.Common.{ℕ, List, sym, subst}
use Rattle.road_model.proofs.Walks.{sound_of}
use Rattle.plateau_finder.specs.declared.plateau.Plateau.{Plateau}
use Rattle.plateau_finder.specs.Links.{HasLeast, IsChainBack}
use Rattle.plateau_finder.proofs.Sound.{vertex_of}
use Rattle.plateau_finder.proofs.WholeChains.{inside_both}
use Rattle.plateau_finder.proofs.Gathered.{has_least, plateau_found, listed_as}
use Rattle.plateau_finder.proofs.finding.plateau_of.Goals as goal

pub named-requires : goal.named-requires
named-requires c =
    subst (λ (l : List Plateau). HasLeast l c.plateau_from-chain.result.least) (sym c.as_slice.ensures)
    (has_least c.args.pair.now c.args.list.now c.args.v c.plateau_from-chain.result
    (sound_of c.args.pair.now.graph c.star.result.now c.star.ensures c.within_limits.ensures)
    (vertex_of c.args.pair.now.graph c.args.pair.now.source c.source-source.result c.source-source.ensures.source c.source-source.ensures.inside)
    c.requires
    (inside_both c.args.pair.now c.args.v c.in-Some._near c.in-Some-to_label._left c.in-Some.ensures.label c.in-Some-to_label.ensures.label)
    (subst (λ (v : ℕ). IsChainBack c.args.pair.now c.args.v v) (sym c.plateau_from-chain.ensures.first) c.first_of-first.ensures)
    c.plateau_from-chain.ensures.chain)

pub returns : goal.returns
returns c =
    plateau_found c.args.pair.now c.args.list.now c.args.v c.plateau_from-chain.result c.named.result c.requires
    (inside_both c.args.pair.now c.args.v c.in-Some._near c.in-Some-to_label._left c.in-Some.ensures.label c.in-Some-to_label.ensures.label)
    (subst (λ (v : ℕ). IsChainBack c.args.pair.now c.args.v v) (sym c.plateau_from-chain.ensures.first) c.first_of-first.ensures)
    c.plateau_from-chain.ensures.chain
    (listed_as c.as_slice.result.now c.args.list.now c.named.result c.as_slice.ensures c.named.ensures.listed) c.named.ensures.least
