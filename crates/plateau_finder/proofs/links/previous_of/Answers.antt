use Rattle.std.proofs.Common.{arith}
use Rattle.plateau_finder.proofs.LinkReads.{previous_none, previous_no_onward, previous_apart, previous_found}
use Rattle.plateau_finder.proofs.links.previous_of.Goals as goal

pub returns-in_default : goal.returns-in_default
returns-in_default c = previous_none c.args.pair.now c.args.v c.requires c.in_default.ensures

pub returns-in_default-to_step : goal.returns-in_default-to_step
returns-in_default-to_step c = previous_no_onward c.args.pair.now c.args.v c.in-Some.step c.in-Some.ensures c.in_default-to_step.ensures

pub returns-then-number : goal.returns-then-number
returns-then-number c = previous_apart c.args.pair.now c.args.v c.in-Some.step c.in-Some-to_step.onward c.in-Some.ensures c.in-Some-to_step.ensures
    (λ same. omega (arith, c.number.ensures.value, c.number-2.ensures.value, c.if-number.true))

pub returns : goal.returns
returns c = previous_found c.args.pair.now c.args.v c.in-Some.step c.in-Some-to_step.onward c.requires c.in-Some.ensures c.in-Some-to_step.ensures
    (omega (arith, c.number.ensures.value, c.number-2.ensures.value, c.if-number.false))
