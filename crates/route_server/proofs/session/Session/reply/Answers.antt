use Rattle.std.proofs.Common.{ap, subst}
use Rattle.desk_core.specs.Desks.{first_plan}
use Rattle.desk_core.specs.KeptAnswers.{with_desk}
use Rattle.desk_core.specs.Replies.{IsStep}
use Rattle.route_server.specs.Sessions.{SessionState, state_of, versions_of}
use Rattle.route_server.proofs.SessionLemmas.{desk_steps, sound_answered, step_items}
use Rattle.route_server.proofs.session.Session.reply.Goals as goal

pub invariant_of-self : goal.invariant_of-self
invariant_of-self g c =
    let s : SessionState =
    record { base = g.V.Version.base c.self.inside.newest; batches = g.V.Version.history c.self.inside.newest; staged = c.self.inside.staged; desk = c.self.inside.desk } in
    sound_answered s (g.V.Planner.graph c.self.inside.newest) (g.V.Planner.version c.self.inside.newest) c.handle.new.self c.args.request.now c.handle.result (first_plan c.handle.new.self) c.self.invariant
    (g.met.V.Version.has_graph c.self.inside.newest) (g.met.V.Version.has_number c.self.inside.newest) c.handle.ensures.step

pub returns-in_default : goal.returns-in_default
returns-in_default g c =
    let s : SessionState =
    record { base = g.V.Version.base c.self.inside.newest; batches = g.V.Version.history c.self.inside.newest; staged = c.self.inside.staged; desk = c.self.inside.desk } in
    let step =
    subst (λ (x : SessionState). IsStep x.base (state_of x) c.args.request.now c.handle.result (first_plan c.handle.new.self) (with_desk (versions_of s) c.handle.new.self))
    c.self.view_is
    (desk_steps s (g.V.Planner.graph c.self.inside.newest) (g.V.Planner.version c.self.inside.newest) c.handle.new.self c.args.request.now c.handle.result (first_plan c.handle.new.self) c.self.invariant
    (g.met.V.Version.has_graph c.self.inside.newest) (g.met.V.Version.has_number c.self.inside.newest) c.handle.ensures.step) in
    record {
      step = step;
      items = step_items c.args.self.now.base (state_of c.args.self.now) (with_desk (versions_of s) c.handle.new.self) c.args.request.now c.handle.result (first_plan c.handle.new.self) step;
      base = ap (λ (x : SessionState). x.base) c.self.view_is;
    }
