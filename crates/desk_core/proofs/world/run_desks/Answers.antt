use Rattle.desk_core.proofs.CallerLemmas.{at_err}
use Rattle.desk_core.proofs.WorldLemmas.{broken_callers, event_for, next_callers, run_broken, run_callers, run_pushed, run_through}
use Rattle.desk_core.proofs.world.run_desks.Goals as goal

pub step-requires-after_bounds : goal.step-requires-after_bounds
step-requires-after_bounds g c κs within =
    event_for c.args.world.now c.loop-event.world c.args.events.now c.loop-event.outcomes c.loop-event.event-index c.event-item.result c.requires c.loop-event-test.true c.event-item.is c.loop-event.invariant

pub returns-in_err-step-clause-callers : goal.returns-in_err-step-clause-callers
returns-in_err-step-clause-callers g c =
    broken_callers c.args.world.now c.loop-event.world c.step.new.self c.args.events.now c.loop-event.outcomes c.loop-event.event-index c.event-item.result c.loop-event.invariant c.in_err-step.ensures.err

pub returns-in_err-step-clause-err : goal.returns-in_err-step-clause-err
returns-in_err-step-clause-err g c =
    at_err _ c.from_residual.result
    (run_broken c.args.world.now c.loop-event.world c.step.new.self c.args.events.now c.loop-event.outcomes c.loop-event.event-index c.event-item.result c.loop-event-test.true c.event-item.is c.loop-event.invariant c.in_err-step.ensures.err)

pub returns-in_err-push-clause-callers : goal.returns-in_err-push-clause-callers
returns-in_err-push-clause-callers g c =
    next_callers c.args.world.now c.loop-event.world c.step.new.self c.args.events.now c.loop-event.outcomes c.loop-event.event-index c.event-item.result c.in_ok-step.field-0 c.loop-event.invariant c.in_ok-step.ensures.ok

pub returns-in_err-push-clause-err : goal.returns-in_err-push-clause-err
returns-in_err-push-clause-err g c =
    at_err _ c.from_residual-in_err-push.result
    (run_through c.args.world.now c.loop-event.world c.step.new.self c.args.events.now c.loop-event.outcomes c.loop-event.event-index c.event-item.result c.in_ok-step.field-0 c.loop-event-test.true c.event-item.is c.loop-event.invariant c.in_ok-step.ensures.ok)

pub loop-event-preserved : goal.loop-event-preserved
loop-event-preserved g c =
    run_pushed c.args.world.now c.loop-event.world c.step.new.self c.args.events.now c.loop-event.outcomes c.push.new.self c.loop-event.event-index c.event-item.result c.in_ok-step.field-0 c.loop-event-test.true c.event-item.is c.loop-event.invariant c.in_ok-step.ensures.ok c.in_ok-push.ensures.ok

pub returns-clause-callers : goal.returns-clause-callers
returns-clause-callers g c = run_callers c.args.world.now c.loop-event.world _ c.loop-event.outcomes c.loop-event.invariant
