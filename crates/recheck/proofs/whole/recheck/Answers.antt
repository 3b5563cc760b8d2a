use Rattle.std.proofs.Common.{subst}
use Rattle.std.specs.Prelude.{Option}
use Rattle.certificate_text.specs.declared.fault.CertFault.{CertFault}
use Rattle.recheck.specs.Checks.{FindsFirst, checks}
use Rattle.recheck.proofs.Certified.{certified}
use Rattle.recheck.proofs.whole.recheck.Goals as goal

pub returns-in-Ok-None-clause-truth : goal.returns-in-Ok-None-clause-truth
returns-in-Ok-None-clause-truth c =
    certified c.args.graph.now c.args.cert.now c.within_limits.ensures
    (subst (λ (o : Option CertFault). FindsFirst (checks c.args.graph.now c.args.cert.now) o) c.in-Ok-None.field-0-is c.in-Ok-None.ensures)
