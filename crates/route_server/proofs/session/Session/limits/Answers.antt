use Rattle.std.proofs.Common.{◌≡◌, false, subst}
use Rattle.desk_core.specs.declared.refusals.Limits.{Limits}
use Rattle.desk_core.specs.States.{limits_in}
use Rattle.route_server.specs.Sessions.{SessionState, state_of}
use Rattle.route_server.proofs.SessionLemmas.{change_limits}
use Rattle.route_server.proofs.session.Session.limits.Goals as goal

pub returns : goal.returns
returns g c request change =
    let s : SessionState =
    record { base = g.V.Version.base c.self.inside.newest; batches = g.V.Version.history c.self.inside.newest; staged = c.self.inside.staged; desk = c.self.inside.desk } in
    subst (λ (x : SessionState). ◌≡◌ {A = Limits} (record { vertices = c.vertices.result; arcs = c.arcs.result; number = c.number.result; kept = false }) (limits_in x.base (state_of x) request))
    c.self.view_is
    (change_limits s (g.V.Planner.graph c.self.inside.newest) c.vertices.result c.arcs.result c.number.result request
    (g.met.V.Version.has_graph c.self.inside.newest)
    (rw c.prepared.ensures at c.vertices.ensures)
    (rw c.prepared-2.ensures at c.arcs.ensures)
    (rw (g.met.V.Version.has_number c.self.inside.newest) at c.number.ensures)
    change)
