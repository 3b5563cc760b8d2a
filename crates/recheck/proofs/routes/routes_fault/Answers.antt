use Rattle.std.proofs.Common.{Option, subst}
use Rattle.std.specs.Option.{option_copied}
use Rattle.certificate_text.specs.declared.fault.CertFault.{CertFault}
use Rattle.recheck.specs.Checks.{done, FindsFirst, route_checks}
use Rattle.recheck.proofs.RouteLines.{route_passed, route_fails}
use Rattle.recheck.proofs.routes.routes_fault.Goals as goal

pub returns-in-Ok-Some : goal.returns-in-Ok-Some
returns-in-Ok-Some c =
    route_fails c.args.basis.now c.args.line c.args.routes.now c.loop-r.r-index c.loop-r.at (option_copied c.loop-r.before) c.r-item.result c.in-Ok-Some.found c.loop-r.invariant c.loop-r-test.true c.r-item.is
    (subst (λ (f : Option CertFault). FindsFirst (route_checks c.args.basis.now c.loop-r.at (option_copied c.loop-r.before) c.r-item.result done) f) c.in-Ok-Some.field-0-is c.in-Ok-Some.ensures)

pub loop-r-preserved : goal.loop-r-preserved
loop-r-preserved c =
    route_passed c.args.basis.now c.args.line c.args.routes.now c.loop-r.r-index c.loop-r.at c.in_ok-at.at (option_copied c.loop-r.before) c.r-item.result c.loop-r.invariant c.loop-r-test.true c.r-item.is
    (subst (λ (f : Option CertFault). FindsFirst (route_checks c.args.basis.now c.loop-r.at (option_copied c.loop-r.before) c.r-item.result done) f) c.in-Ok-None.field-0-is c.in-Ok-None.ensures)
    c.in_ok-at.ensures
