use Rattle.std.proofs.Common.{◌≡◌, true, false, None, get_or, refl, subst, Option, ℕ}
use Rattle.recheck.specs.Steps.{IsAlong}
use Rattle.recheck.proofs.FollowLemmas.{IsLeft-none}
use Rattle.recheck.proofs.walks.follows.Goals as goal

pub returns-in_default : goal.returns-in_default
returns-in_default g c =
    let h = g.N.Network.graph c.args.net.now in
    let none : IsAlong h c.args.rows.now c.args.root c.loop-a.at (get_or c.args.arcs.now c.loop-a.a-index 0) None = subst (λ (o : Option ℕ). IsAlong h c.args.rows.now c.args.root c.loop-a.at (get_or c.args.arcs.now c.loop-a.a-index 0) o) c.in_default.is c.head_along.ensures in (
      (λ no. absurd (let e : false ≡ true = no in cc)),
      (λ f. absurd (IsLeft-none h c.args.rows.now c.args.root c.args.v c.loop-a.at c.args.arcs.now c.loop-a.a-index (get_or c.args.arcs.now c.loop-a.a-index 0) c.loop-a.invariant c.loop-a-test.true refl none f)),
    )
