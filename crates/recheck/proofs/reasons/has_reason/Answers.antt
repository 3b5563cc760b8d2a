use Rattle.std.proofs.Common.{IsTrue, ◌↔◌, List, ℕ, subst}
use Rattle.recheck.specs.Reasons.{Shows}
use Rattle.recheck.proofs.ReasonLemmas.{reason_shows}
use Rattle.recheck.proofs.reasons.has_reason.Goals as goal

pub returns : goal.returns
returns c =
    reason_shows c.args.basis.now c.args.routes.now c.args.line.now c.in_ok-path.path.items c.in_ok-is.is' c.in_ok-path.ensures
    (subst (λ (l : List ℕ). IsTrue c.in_ok-is.is' ↔ Shows c.args.basis.now c.args.routes.now l c.args.line.now.reason) c.deref.ensures.value c.in_ok-is.ensures)
