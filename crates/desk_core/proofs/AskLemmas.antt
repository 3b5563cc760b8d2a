-- What a request makes of a world.
use Rattle.std.proofs.Common.{◌≡◌, ℕ, ◌<◌, ◌≤◌, List, length, get_or, set, Result, sym, ap, ◌∙◌, subst, arith}
use Rattle.std.specs.Prelude.{IfOk, OnErr}
use Rattle.std.proofs.lemmas.List.{get_or_default}
use Rattle.std.proofs.lemmas.Result.{IfOk-weaker, on_err_weaker}
use Rattle.road_model.specs.declared.request.Request.{Request}
use Rattle.road_model.specs.Graph.{Graph}
use Rattle.desk_core.specs.declared.caller.Caller.{Caller}
use Rattle.desk_core.specs.declared.event.Event.TheVariants as event
use Rattle.desk_core.specs.declared.event.Outcome.{Outcome}
use Rattle.desk_core.specs.declared.event.Outcome.TheVariants as outcome
use Rattle.desk_core.specs.Histories.{History, newest_in, graph_in}
use Rattle.desk_core.specs.Worlds.{WorldState, new_caller, caller_of, plan_in, IsTurn, IsEventStep}
use Rattle.desk_core.specs.WorldSteps.{WasStep}
use Rattle.desk_core.specs.CallerTurns.{IsAsked, WasAsked}

abbrev world_of : History → List Caller → WorldState
world_of h callers = record { history = h; callers = callers }

record IsAllowed (h : History) (callers : List Caller) (caller version number newest : ℕ) (graph : Graph) (before : Caller) : Type 0 where
  inside : caller < length callers
  is_caller : before ≡ get_or callers caller before
  fresh : before.seen ≤ version
  there : version ≤ newest
  is_newest : newest ≡ newest_in h
  is_number : number ≡ version
  is_graph : graph ≡ graph_in h version

asked_step : (h : History) (callers : List Caller) (caller version number newest : ℕ) (graph : Graph) (request : Request) (before after : Caller) → IsAllowed h callers caller version number newest graph before → (o : Outcome) → IsAsked number graph before request o after → IsEventStep (world_of h callers) (event.Request caller version request) o (world_of h (set callers caller after))
asked_step h callers caller version number newest graph request before after allowed (outcome.Reply r shown) asked =
    let w : WorldState = world_of h callers in
    let is : before ≡ caller_of w caller = allowed.is_caller ∙ get_or_default callers caller before new_caller allowed.inside in
    let turn : IsTurn version graph before.desk request r (plan_in shown) after.desk = subst (λ (n : ℕ). IsTurn n graph before.desk request r (plan_in shown) after.desk) allowed.is_number asked.1 in
    let over : IsTurn version (graph_in h version) before.desk request r (plan_in shown) after.desk = subst (λ (g : Graph). IsTurn version g before.desk request r (plan_in shown) after.desk) allowed.is_graph turn in
    record {
      fresh = subst (λ (x : Caller). x.seen ≤ version) is allowed.fresh;
      there = let there = allowed.there in let newest_is = allowed.is_newest in omega arith;
      desk = after.desk;
      turn = subst (λ (x : Caller). IsTurn version (graph_in h version) x.desk request r (plan_in shown) after.desk) is over;
      is_next = ap (λ (seen : ℕ). let x : Caller = record { seen = seen; desk = after.desk } in world_of h (set callers caller x)) (asked.0 ∙ allowed.is_number);
    }
asked_step h callers caller version number newest graph request before after allowed o asked = absurd asked

module _ {E : Type 0} (w : WorldState) (h : History) (callers : List Caller) (caller version number newest : ℕ) (graph : Graph) (request : Request) (before after : Caller) (result : Result Outcome E) (view_is : world_of h callers ≡ w) (inside : caller < length w.callers) (is_caller : before ≡ get_or callers caller before) (fresh : before.seen ≤ version) (there : version ≤ newest) (is_newest : newest ≡ newest_in h) (is_number : number ≡ version) (is_graph : graph ≡ graph_in h version) where
  allowed : IsAllowed h callers caller version number newest graph before
  allowed = record {
    inside = subst (λ (x : WorldState). caller < length x.callers) (sym view_is) inside;
    is_caller = is_caller;
    fresh = fresh;
    there = there;
    is_newest = is_newest;
    is_number = is_number;
    is_graph = is_graph;
  }

  abbrev next : WorldState
  next = world_of h (set callers caller after)

  stepped : (o : Outcome) → IsAsked number graph before request o after → IsEventStep w (event.Request caller version request) o next
  stepped o asked =
      subst (λ (x : WorldState). IsEventStep x (event.Request caller version request) o next) view_is
      (asked_step h callers caller version number newest graph request before after allowed o asked)

  pub ask_ok : IfOk result (λ o. IsAsked number graph before request o after) → IfOk result (λ o. IsEventStep w (event.Request caller version request) o next)
  ask_ok = IfOk-weaker result (λ (o : Outcome). IsAsked number graph before request o after) (λ (o : Outcome). IsEventStep w (event.Request caller version request) o next) stepped

  was_stepped : WasAsked number graph before request after → WasStep w (event.Request caller version request) next
  was_stepped was = record { given = was.given; step = stepped was.given was.asked }

  pub ask_err : OnErr result (WasAsked number graph before request after) → OnErr result (WasStep w (event.Request caller version request) next)
  ask_err = on_err_weaker result was_stepped
