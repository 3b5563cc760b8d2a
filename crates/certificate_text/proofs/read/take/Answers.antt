use Rattle.std.proofs.Common.{subst, sym}
use Rattle.certificate_text.specs.declared.order.Progress.{Progress}
use Rattle.certificate_text.specs.Words.{Gives, line_said, line_of}
use Rattle.certificate_text.specs.Order.{step_raw}
use Rattle.certificate_text.proofs.WordLemmas.{Gives-err}
use Rattle.certificate_text.proofs.RunLemmas.{step_raw-is, step_raw-wrong}
use Rattle.certificate_text.proofs.read.take.Goals as goal

pub returns-in-Ok : goal.returns-in-Ok
returns-in-Ok c = subst (λ o. Gives {X = Progress} {Y = Progress} (λ p. p) c.step.result o) (sym (step_raw-is c.args.progress c.args.raw.now (line_said c.in-Ok.said) c.in-Ok.ensures)) c.step.ensures

pub returns-in-Err : goal.returns-in-Err
returns-in-Err c = Gives-err line_said (λ p. p) c.in-Err.refusal (line_of c.args.raw.now) (step_raw c.args.progress c.args.raw.now) (step_raw-wrong c.args.progress c.args.raw.now) c.in-Err.ensures
