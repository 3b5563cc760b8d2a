use Rattle.std.proofs.Common.{subst}
use Rattle.std.specs.Prelude.{Option, None}
use Rattle.std.proofs.lemmas.Result.{IfOk-weaker}
use Rattle.certificate_text.specs.declared.fault.CertFault.{CertFault}
use Rattle.recheck.specs.Checks.{done, FindsFirst, routes_checks, vias_checks, found_checks}
use Rattle.recheck.proofs.WholeFaults.{found_routes, found_vias}
use Rattle.recheck.proofs.found.found_fault.Goals as goal

pub returns-in-Ok-Some : goal.returns-in-Ok-Some
returns-in-Ok-Some c =
    let here = subst (λ (o : Option CertFault). FindsFirst (routes_checks c.args.basis.now c.in_ok-first.first None c.args.routes.now (λ _. done)) o) c.in-Ok-Some.field-0-is c.in-Ok-Some.ensures in
    found_routes c.args.basis.now c.args.line c.in_ok-first.first c.args.routes.now c.args.vias.now c.in-Ok-Some.fault (c.in_ok-is_best.ensures.0 c.if-not-branch.false) (c.is_bounded.ensures.0 c.if-not-is_bounded.false) c.in_ok-first.ensures here

pub returns : goal.returns
returns c =
    let here = subst (λ (o : Option CertFault). FindsFirst (routes_checks c.args.basis.now c.in_ok-first.first None c.args.routes.now (λ _. done)) o) c.in-Ok-None.field-0-is c.in-Ok-None.ensures in
    IfOk-weaker c.vias_fault.result (λ (o : Option CertFault). FindsFirst (vias_checks c.args.basis.now c.args.routes.now c.in_ok-next.next 0 c.args.vias.now) o) (λ (o : Option CertFault). FindsFirst (found_checks c.args.basis.now c.args.line c.args.routes.now c.args.vias.now) o)
    (λ o rest. found_vias c.args.basis.now c.args.line c.in_ok-first.first c.in_ok-next.next c.args.routes.now c.args.vias.now o (c.in_ok-is_best.ensures.0 c.if-not-branch.false) (c.is_bounded.ensures.0 c.if-not-is_bounded.false) c.in_ok-first.ensures c.in_ok-next.ensures here rest)
    c.vias_fault.ensures
