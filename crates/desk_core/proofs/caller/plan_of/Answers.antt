use Rattle.desk_core.proofs.CallerLemmas.{at_err, plan_there}
use Rattle.desk_core.proofs.caller.plan_of.Goals as goal

pub returns-in_err-try_clone-in-Some-clause-err : goal.returns-in_err-try_clone-in-Some-clause-err
returns-in_err-try_clone-in-Some-clause-err c =
    at_err _ c.from_residual.result (plan_there c.in-Some.plan.now c.is_page.result _ _ c.is_page.ensures c.if-not-is_page.false c.in-Some.ensures)
