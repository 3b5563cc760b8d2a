use Rattle.std.proofs.Common.{◌≡◌, All, refl, sym, ap, subst}
use Rattle.std.proofs.lemmas.List.Elements.{All-push}
use Rattle.forward_star.proofs.Bound.{dists_below}
use Rattle.road_model.specs.Dist.{HaveSameDist}
use Rattle.road_model.specs.Oracles.{Questions}
use Rattle.worked_walks.proofs.forked.oracles_of.Goals as goal

pub new-requires-clause-near : goal.new-requires-clause-near
new-requires-clause-near c = dists_below c.args.star.now c.within_limits.ensures

pub loop-preserved : goal.loop-preserved
loop-preserved c =
    let own : c.in_ok-oracle.oracle.graph ≡ c.args.star.now = ap (λ (q : Questions). q.graph) c.in_ok-oracle.ensures in
    let same : HaveSameDist c.args.star.now c.in_ok-oracle.oracle.graph =
    subst (HaveSameDist c.args.star.now) (sym own) (record { vertices = refl; dist = λ u v d. (λ x. x, λ x. x) }) in
    subst (All (λ o. HaveSameDist c.args.star.now o.graph)) (sym c.in_ok-push.ensures.items)
    (All-push (λ o. HaveSameDist c.args.star.now o.graph) c.loop.oracles.items c.in_ok-oracle.oracle c.loop.invariant same)
