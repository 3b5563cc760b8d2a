use Rattle.std.proofs.Common.{ℕ, List, length, sym, subst, ◌∙◌, arith}
use Rattle.std.specs.List.Sorted.{IsStrictlyIncreasing}
use Rattle.rayon.proofs.ListFacts.{IfOk-then}
use Rattle.rayon.proofs.ToStd.{slice-AllZip}
use Rattle.road_model.proofs.Walks.{sound_of}
use Rattle.plateau_finder.specs.declared.plateau.Plateau.{Plateau}
use Rattle.plateau_finder.specs.Links.{StartsAt}
use Rattle.plateau_finder.proofs.Gathered.{IsGathering, gathered_all}
use Rattle.plateau_finder.proofs.Forked.{gathering_all}
use Rattle.plateau_finder.proofs.finding.gathered_forked.Goals as goal

pub returns : goal.returns
returns g c =
    let ts = c.args.pair.now in
    let vertices = c.as_slice-vertices.result.now in
    let ascending = subst (λ (l : List ℕ). IsStrictlyIncreasing l) (sym c.as_slice-vertices.ensures) c.from_members.ensures.ascending in
    IfOk-then c.collect.result _ _ c.collect.ensures (λ v h.
    let chain = rw (c.filter_map.ensures.base, c.filter_map.ensures.f) at h.1 in
    let each = slice-AllZip chain.0 vertices (chain.2 ∙ c.par_iter.ensures) (StartsAt ts c.args.bound) chain.1 chain.3 in
    gathered_all ts c.args.bound vertices c.from_members.result.now (length vertices) v.items
    (sound_of ts.graph c.star.result.now c.star.ensures c.within_limits.ensures)
    c.from_members.ensures c.as_slice-vertices.ensures (omega arith)
    (subst (λ (l : List Plateau). IsGathering ts c.args.bound vertices (length vertices) l) (sym (h.2 ∙ chain.4))
    (gathering_all ts c.args.bound vertices ascending chain.1 each)))
