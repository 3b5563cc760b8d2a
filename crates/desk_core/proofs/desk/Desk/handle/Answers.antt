use Rattle.std.proofs.Common.{refl}
use Rattle.desk_core.proofs.DeskLemmas.{needs_none, outcome_is, question_of, range_is, starved_step}
use Rattle.desk_core.proofs.desk.Desk.handle.Goals as goal

pub answered-requires-after_bounds : goal.answered-requires-after_bounds
answered-requires-after_bounds g c κs within =
    question_of (g.P.Planner.version c.args.pinned.now) (g.P.Planner.graph c.args.pinned.now) c.args.self.now c.args.request.now c.in-Ok.asked
    (outcome_is _ _ c.args.request.now _ _ c.limits-limits.ensures c.tested.ensures.outcome c.in-Ok.is)
    (range_is _ _ _ c.in-Ok.asked c.limits-limits.ensures c.tested.ensures.ranges c.in-Ok.is) c.requires

pub returns-in-Ok-answered-clause-idle : goal.returns-in-Ok-answered-clause-idle
returns-in-Ok-answered-clause-idle g c = λ sure.
    c.answered.ensures.idle
    (needs_none (g.P.Planner.version c.args.pinned.now) (g.P.Planner.graph c.args.pinned.now) c.args.self.now c.args.request.now c.in-Ok.asked
    (outcome_is _ _ c.args.request.now _ _ c.limits-limits.ensures c.tested.ensures.outcome c.in-Ok.is) sure)

pub returns-in-Err-answered-clause-step : goal.returns-in-Err-answered-clause-step
returns-in-Err-answered-clause-step g c =
    starved_step (g.P.Planner.version c.args.pinned.now) (g.P.Planner.graph c.args.pinned.now) c.args.self.now c.answered.new.self c.args.request.now c.in-Ok.asked _ _
    (outcome_is _ _ c.args.request.now _ _ c.limits-limits.ensures c.tested.ensures.outcome c.in-Ok.is) c.in-Err-answered.ensures.memory refl c.in-Err-answered.ensures.err

pub returns-in-Err-answered-clause-idle : goal.returns-in-Err-answered-clause-idle
returns-in-Err-answered-clause-idle g c = λ sure.
    c.answered.ensures.idle
    (needs_none (g.P.Planner.version c.args.pinned.now) (g.P.Planner.graph c.args.pinned.now) c.args.self.now c.args.request.now c.in-Ok.asked
    (outcome_is _ _ c.args.request.now _ _ c.limits-limits.ensures c.tested.ensures.outcome c.in-Ok.is) sure)
