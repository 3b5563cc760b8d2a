use Rattle.std.proofs.Common.{◌≡◌, true, false, arith}
use Rattle.std.proofs.lemmas.Bool.{iff_false}
use Rattle.recheck.proofs.ReasonLemmas.{unlisted_more, unlisted}
use Rattle.recheck.proofs.reasons.is_listed_as.Goals as goal

pub loop-route-init : goal.loop-route-init
loop-route-init c = λ h. omega (arith, h.listed.1)

pub loop-route-preserved : goal.loop-route-preserved
loop-route-preserved c =
    unlisted_more c.args.routes.now c.args.path.now c.args.name c.loop-route.route-index c.route-item.result c.loop-route-test.true c.route-item.is
    (iff_false c.is_so_named.ensures c.if-is_so_named.false) c.loop-route.invariant

pub returns : goal.returns
returns c = (
  (λ no. absurd (let e : false ≡ true = no in cc)),
  (λ h. absurd (unlisted c.args.routes.now c.args.path.now c.args.name c.loop-route.route-index c.loop-route-test.false c.loop-route.invariant h)),
)
