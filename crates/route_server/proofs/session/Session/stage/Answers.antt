use Rattle.std.proofs.Common.{◌≡◌, None, subst, sym}
use Rattle.road_model.specs.Changes.{fault_of}
use Rattle.route_server.specs.Sessions.{SessionState}
use Rattle.route_server.proofs.SessionLemmas.{sound_staged}
use Rattle.route_server.proofs.session.Session.stage.Goals as goal
use Rattle.route_server.proofs.session.Session.stage.Goals.{in-Ok, in-Err}

pub invariant_of-self : goal.invariant_of-self
invariant_of-self g c =
    elim c.match-push.branch [
      | in-Ok w ↦ sound_staged _ c.args.change c.push.new.self c.self.invariant
          (subst (λ (s : SessionState). fault_of s.base c.args.change ≡ None) (sym c.self.view_is) c.requires)
          w.in-Ok.ensures.ok
      | in-Err w ↦ rw w.in-Err.ensures.err c.self.invariant
    ]
