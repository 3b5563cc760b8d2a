use Rattle.std.proofs.Common.{arith}
use Rattle.certificate_text.specs.declared.certificate.CertRoute.{CertRoute}
use Rattle.certificate_text.specs.Texts.{Route}
use Rattle.certificate_text.specs.Parts.{whole_line}
use Rattle.certificate_text.proofs.PutLemmas.{PutsOn_cut, PutsOn_exit, PutsOn_more}
use Rattle.certificate_text.proofs.write.put_routes.Goals as goal

pub returns-in_err-put_route : goal.returns-in_err-put_route
returns-in_err-put_route g c =
    PutsOn_exit _ c.from_residual.ensures.0
    (PutsOn_cut _ _ (λ (route : CertRoute). whole_line (Route route)) c.args.routes.now c.loop-route.route-index _ c.route-item.result _ _ _ _ _ _ (omega arith) c.route-item.is c.loop-route.invariant c.in_err-put_route.ensures)

pub loop-route-preserved : goal.loop-route-preserved
loop-route-preserved g c =
    PutsOn_more _ _ (λ (route : CertRoute). whole_line (Route route)) c.args.routes.now c.loop-route.route-index _ c.route-item.result _ _ _ _ _ _ (omega arith) c.route-item.is c.loop-route.invariant c.in_ok-put_route.ensures
