use Rattle.desk_core.proofs.AskLemmas.{ask_err, ask_ok}
use Rattle.desk_core.proofs.world.World.ask.Goals as goal

pub returns-clause-ok : goal.returns-clause-ok
returns-clause-ok g c =
    ask_ok c.args.self.now c.self.inside.versions c.self.inside.callers.items c.args.caller c.args.version (g.V.Planner.version c.at.result.now) c.newest-newest.result (g.V.Planner.graph c.at.result.now) c.args.request.now c.index_mut-caller.result.now c.ask.new.self c.ask.result c.self.view_is c.requires.caller c.index_mut-caller.ensures.value c.if-version-seen.false c.if-newest-version.false c.newest-newest.ensures c.at.ensures.number c.at.ensures.graph c.ask.ensures.ok

pub returns-clause-err : goal.returns-clause-err
returns-clause-err g c =
    ask_err c.args.self.now c.self.inside.versions c.self.inside.callers.items c.args.caller c.args.version (g.V.Planner.version c.at.result.now) c.newest-newest.result (g.V.Planner.graph c.at.result.now) c.args.request.now c.index_mut-caller.result.now c.ask.new.self c.ask.result c.self.view_is c.requires.caller c.index_mut-caller.ensures.value c.if-version-seen.false c.if-newest-version.false c.newest-newest.ensures c.at.ensures.number c.at.ensures.graph c.ask.ensures.err
