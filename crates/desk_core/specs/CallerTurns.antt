-- What asking its desk makes of a caller.
--   HasPlan p           the plan, where there is one, stands somewhere
--   IsAsked number graph caller request outcome next   the outcome is the reply of its desk over this version
--   WasAsked ..         there is such an outcome, though it isn't told
use Rattle.std.specs.Prelude.{◌≡◌, ℕ, Option}
use Rattle.std.specs.declared.sync.Arc.{Arc}
use Rattle.std.specs.declared.alloc.Global.{Global}
use Rattle.road_model.specs.declared.answer.Plan.{Plan}
use Rattle.road_model.specs.declared.request.Request.{Request}
use Rattle.road_model.specs.Graph.{Graph}
use Rattle.desk_core.specs.declared.caller.Caller.{Caller}
use Rattle.desk_core.specs.declared.event.Outcome.{Outcome}
use Rattle.desk_core.specs.declared.event.Outcome.TheVariants as outcome
use Rattle.desk_core.specs.Worlds.{plan_in, IsTurn}

pub record HasPlan (p : Option Plan) : Type 0 where
  pub plan : Option (Arc Plan Global)
  pub is : plan_in plan ≡ p

abbrev pub IsAsked : ℕ → Graph → Caller → Request → Outcome → Caller → Type 0
IsAsked number graph caller request (outcome.Reply r shown) next =
    (next.seen ≡ number) × IsTurn number graph caller.desk request r (plan_in shown) next.desk
IsAsked number graph caller request o next = ⊥

pub record WasAsked (number : ℕ) (graph : Graph) (caller : Caller) (request : Request) (next : Caller) : Type 0 where
  pub given : Outcome
  pub asked : IsAsked number graph caller request given next
