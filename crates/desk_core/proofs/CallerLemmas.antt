-- What asking its desk makes of a caller.
use Rattle.std.proofs.Common.{◌≡◌, ℕ, Bool, true, Option, Some, None, Result, Ok, Err, sym, ap, ◌∙◌}
use Rattle.std.specs.Prelude.{OnErr, if◌then◌else◌}
use Rattle.std.specs.declared.sync.Arc.{Arc}
use Rattle.std.specs.declared.alloc.Global.{Global}
use Rattle.road_model.specs.declared.answer.Plan.{Plan}
use Rattle.road_model.specs.declared.request.Reply.{Reply}
use Rattle.road_model.specs.declared.request.Request.{Request}
use Rattle.road_model.specs.Graph.{Graph}
use Rattle.desk_core.specs.declared.caller.Caller.{Caller}
use Rattle.desk_core.specs.declared.event.Outcome.TheVariants as outcome
use Rattle.desk_core.specs.Desks.{DeskState, first_plan, IsDeskStep}
use Rattle.desk_core.specs.Worlds.{is_page}
use Rattle.desk_core.specs.CallerTurns.{HasPlan, WasAsked}

-- a fact holds at an error too
pub at_err : {T E : Type 0} (P : Type 0) (r : Result T E) → P → OnErr r P
at_err P (Ok x) p = tt
at_err P (Err e) p = p

pub plan_there : (plan : Arc Plan Global) (test page : Bool) (first : Option Plan) → test ≡ page → test ≡ true → Some plan.value ≡ first → HasPlan (if page then first else None)
plan_there plan test page first same holds is = record {
  plan = Some plan;
  is = is ∙ ap (λ (b : Bool). if b then first else None) (sym holds ∙ same);
}

pub was_asked : (number : ℕ) (graph : Graph) (caller : Caller) (request : Request) (r : Reply) (next : DeskState) (seen : ℕ) → seen ≡ number → IsDeskStep number graph caller.desk request r (first_plan next) next → HasPlan (if is_page r then first_plan next else None) → WasAsked number graph caller request (record { seen = seen; desk = next })
was_asked number graph caller request r next seen is step h = record {
  given = outcome.Reply r h.plan;
  asked = (is, record { step = step; is_shown = h.is });
}
