use Rattle.desk_core.proofs.CallerLemmas.{at_err, was_asked}
use Rattle.desk_core.proofs.caller.Caller.ask.Goals as goal

pub returns-in_err-shown-clause-err : goal.returns-in_err-shown-clause-err
returns-in_err-shown-clause-err g c =
    at_err _ c.from_residual.result
    (was_asked (g.P.Planner.version c.args.pinned.now) (g.P.Planner.graph c.args.pinned.now) c.args.self.now c.args.request.now c.handle-reply.result c.handle-reply.new.self c.number-self.result c.number-self.ensures c.handle-reply.ensures.step c.in_err-shown.ensures.err)
