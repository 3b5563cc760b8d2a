use Rattle.std.proofs.Common.{◌≢◌, ◌∙◌, ap, subst, sym}
use Rattle.road_model.specs.declared.planner.TheConstants.{LAST_VERSION}
use Rattle.desk_core.specs.States.{newest}
use Rattle.route_server.specs.Sessions.{SessionState, state_of}
use Rattle.route_server.proofs.SessionLemmas.{only_memory}
use Rattle.route_server.proofs.session.Session.with_staged.Goals as goal

pub returns-in-Err-clause-memory : goal.returns-in-Err-clause-memory
returns-in-Err-clause-memory g c =
    let s : SessionState =
    record { base = g.V.Version.base c.self.inside.newest; batches = g.V.Version.history c.self.inside.newest; staged = c.self.inside.staged; desk = c.self.inside.desk } in
    only_memory s (g.V.Planner.graph c.prepared.result.now) (g.V.Planner.version c.prepared.result.now) c.as_slice-staged.result.now c.in-Err.fault c.self.invariant
    (ap g.V.Planner.graph c.prepared.ensures ∙ g.met.V.Version.has_graph c.self.inside.newest)
    (ap g.V.Planner.version c.prepared.ensures ∙ g.met.V.Version.has_number c.self.inside.newest)
    c.as_slice-staged.ensures
    (subst (λ (x : SessionState). newest (state_of x) ≢ LAST_VERSION) (sym c.self.view_is) c.requires)
    c.in-Err.ensures.refused
