use Rattle.std.proofs.Common.{arith}
use Rattle.plateau_finder.proofs.LinkReads.{next_none, next_no_back, next_apart, next_found}
use Rattle.plateau_finder.proofs.links.next_of.Goals as goal

pub returns-in_default : goal.returns-in_default
returns-in_default c = next_none c.args.pair.now c.args.u c.requires c.in_default.ensures

pub returns-in_default-from_step : goal.returns-in_default-from_step
returns-in_default-from_step c = next_no_back c.args.pair.now c.args.u c.in-Some.step c.in-Some.ensures c.in_default-from_step.ensures

pub returns-then-number : goal.returns-then-number
returns-then-number c = next_apart c.args.pair.now c.args.u c.in-Some.step c.in-Some-from_step.back c.in-Some.ensures c.in-Some-from_step.ensures
    (λ same. omega (arith, c.number.ensures.value, c.number-2.ensures.value, c.if-number.true))

pub returns : goal.returns
returns c = next_found c.args.pair.now c.args.u c.in-Some.step c.in-Some-from_step.back c.requires c.in-Some.ensures c.in-Some-from_step.ensures
    (omega (arith, c.number.ensures.value, c.number-2.ensures.value, c.if-number.false))
