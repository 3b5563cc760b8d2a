-- Runs of a world.
use Rattle.std.proofs.Common.{◌≡◌, ◌≢◌, ℕ, ◌+◌, ◌-◌, ◌<◌, ◌≤◌, ◌⊎◌, Bool, true, false, List, [], ◌∷◌, ◌++◌, length, get_or, set, take, drop, replicate, refl, sym, ap, ◌∙◌, subst, arith, ⊎_elim, append_assoc, get_or-set_same, get_or-set_other}
use Rattle.std.specs.Prelude.{◌==◌, if◌then◌else◌, Option}
use Rattle.std.specs.Cmp.{unsigned_Decides}
use Rattle.std.specs.List.{All}
use Rattle.std.proofs.Math.ListN.{length-set}
use Rattle.std.proofs.lemmas.List.{append-nil, get_or-replicate, length-replicate, take-append-drop, take-append-le, take_more}
use Rattle.road_model.specs.declared.answer.Plan.{Plan}
use Rattle.road_model.specs.declared.change.Change.{Change}
use Rattle.road_model.specs.declared.request.Reply.{Reply}
use Rattle.road_model.specs.declared.request.Request.{Request}
use Rattle.road_model.specs.Graph.{Graph}
use Rattle.road_model.specs.Changes.{after_all}
use Rattle.desk_core.specs.declared.caller.Caller.{Caller}
use Rattle.desk_core.specs.declared.event.Event.{Event}
use Rattle.desk_core.specs.declared.event.Event.TheVariants as event
use Rattle.desk_core.specs.declared.event.Outcome.{Outcome}
use Rattle.desk_core.specs.declared.event.Outcome.TheVariants as outcome
use Rattle.desk_core.specs.Desks.{DeskState, empty_desk}
use Rattle.desk_core.specs.Histories.{newest_in, graph_in}
use Rattle.desk_core.specs.Worlds.{WorldState, new_caller, started, caller_of, with_caller, plan_in, IsEventFor, IsEventStep, IsReplied, IsTurn, IsWorldRun, IsRunOfSome, own_requests, replies_to, IsAlone}
use Rattle.desk_core.specs.WorldSteps.{WasStep}

-- ---- what a step leaves

record Moves (w next : WorldState) : Type 0 where
  more : List (List Change)
  base : next.history.base ≡ w.history.base
  batches : next.history.batches ≡ w.history.batches ++ more
  callers : length next.callers ≡ length w.callers

stay : (w next : WorldState) → next ≡ w → Moves w next
stay w next same = record {
  more = [];
  base = ap (λ (x : WorldState). x.history.base) same;
  batches = ap (λ (x : WorldState). x.history.batches) same ∙ sym (append-nil w.history.batches);
  callers = ap (λ (x : WorldState). length x.callers) same;
}

caller_moves : (w next : WorldState) (c : ℕ) (x : Caller) → next ≡ with_caller w c x → Moves w next
caller_moves w next c x is = record {
  more = [];
  base = ap (λ (y : WorldState). y.history.base) is;
  batches = ap (λ (y : WorldState). y.history.batches) is ∙ sym (append-nil w.history.batches);
  callers = ap (λ (y : WorldState). length y.callers) is ∙ length-set w.callers c x;
}

step_moves : (w next : WorldState) (e : Event) (o : Outcome) → IsEventStep w e o next → Moves w next
step_moves w next (event.Request caller version request) (outcome.Reply r shown) h =
    caller_moves w next caller (record { seen = version; desk = h.desk }) h.is_next
step_moves w next (event.Request caller version request) (outcome.NotAllowed seen newest) h = stay w next h.0.stays
step_moves w next (event.Publish changes) (outcome.Published number) h = record {
  more = changes ∷ [];
  base = ap (λ (x : WorldState). x.history.base) h.is_next;
  batches = ap (λ (x : WorldState). x.history.batches) h.is_next;
  callers = ap (λ (x : WorldState). length x.callers) h.is_next;
}
step_moves w next (event.Publish changes) (outcome.Refused fault) h = stay w next h.stays
step_moves w next (event.Tell caller version) (outcome.Told seen) h =
    caller_moves w next caller (record (caller_of w caller) { seen = seen }) h.is_next
step_moves w next (event.Tell caller version) (outcome.NotAllowed seen newest) h = stay w next h.0.stays
step_moves w next e o h = absurd h

two_moves : (w x y : WorldState) → Moves w x → Moves x y → Moves w y
two_moves w x y h k = record {
  more = h.more ++ k.more;
  base = k.base ∙ h.base;
  batches = k.batches ∙ ap (λ (l : List (List Change)). l ++ k.more) h.batches ∙ append_assoc w.history.batches h.more k.more;
  callers = k.callers ∙ h.callers;
}

run_moves : (w last : WorldState) (events : List Event) (outcomes : List Outcome) → IsWorldRun w events outcomes last → Moves w last
run_moves w last [] [] h = stay w last h
run_moves w last (e ∷ events) (o ∷ outcomes) (next, step, rest) =
    two_moves w next last (step_moves w next e o step) (run_moves next last events outcomes rest)
run_moves w last events outcomes h = absurd h

pub run_callers : (w last : WorldState) (events : List Event) (outcomes : List Outcome) → IsWorldRun w events outcomes last → length last.callers ≡ length w.callers
run_callers w last events outcomes run = (run_moves w last events outcomes run).callers

-- ---- one more event

run_more : (w x y : WorldState) (events : List Event) (outcomes : List Outcome) (e : Event) (o : Outcome) → IsWorldRun w events outcomes x → IsEventStep x e o y → IsWorldRun w (events ++ e ∷ []) (outcomes ++ o ∷ []) y
run_more w x y [] [] e o run step = (y, subst (λ (z : WorldState). IsEventStep z e o y) run step, refl)
run_more w x y (f ∷ events) (p ∷ outcomes) e o (next, first, rest) step = (next, first, run_more next x y events outcomes e o rest step)
run_more w x y events outcomes e o run step = absurd run

run_next : (w x y : WorldState) (events : List Event) (outcomes : List Outcome) (i : ℕ) (e : Event) (o : Outcome) → i < length events → e ≡ get_or events i e → IsWorldRun w (take i events) outcomes x → IsEventStep x e o y → IsWorldRun w (take (i + 1) events) (outcomes ++ o ∷ []) y
run_next w x y events outcomes i e o inside is run step =
    let more : take (i + 1) events ≡ take i events ++ e ∷ [] = take_more events i e inside ∙ ap (λ (f : Event). take i events ++ f ∷ []) (sym is) in
    subst (λ (l : List Event). IsWorldRun w l (outcomes ++ o ∷ []) y) (sym more) (run_more w x y (take i events) outcomes e o run step)

run_up_to : (w x : WorldState) (events : List Event) (outcomes : List Outcome) (i : ℕ) → IsWorldRun w (take i events) outcomes x → IsRunOfSome w events x
run_up_to w x events outcomes i run = record {
  first = take i events;
  rest = drop i events;
  outcomes = outcomes;
  are = sym (take-append-drop i events);
  run = run;
}

pub run_through : (w x y : WorldState) (events : List Event) (outcomes : List Outcome) (i : ℕ) (e : Event) (o : Outcome) → i < length events → e ≡ get_or events i e → IsWorldRun w (take i events) outcomes x → IsEventStep x e o y → IsRunOfSome w events y
run_through w x y events outcomes i e o inside is run step =
    run_up_to w y events (outcomes ++ o ∷ []) (i + 1) (run_next w x y events outcomes i e o inside is run step)

pub run_broken : (w x y : WorldState) (events : List Event) (outcomes : List Outcome) (i : ℕ) (e : Event) → i < length events → e ≡ get_or events i e → IsWorldRun w (take i events) outcomes x → (y ≡ x) ⊎ WasStep x e y → IsRunOfSome w events y
run_broken w x y events outcomes i e inside is run h =
    ⊎_elim
    (λ (same : y ≡ x). run_up_to w y events outcomes i (subst (λ (z : WorldState). IsWorldRun w (take i events) outcomes z) (sym same) run))
    (λ (was : WasStep x e y). run_through w x y events outcomes i e was.given inside is run was.step)
    h

pub run_pushed : (w x y : WorldState) (events : List Event) (outcomes pushed : List Outcome) (i : ℕ) (e : Event) (o : Outcome) → i < length events → e ≡ get_or events i e → IsWorldRun w (take i events) outcomes x → IsEventStep x e o y → pushed ≡ outcomes ++ o ∷ [] → IsWorldRun w (take (i + 1) events) pushed y
run_pushed w x y events outcomes pushed i e o inside is run step push =
    subst (λ (l : List Outcome). IsWorldRun w (take (i + 1) events) l y) (sym push) (run_next w x y events outcomes i e o inside is run step)

-- ---- the callers stay

pub event_for : (w x : WorldState) (events : List Event) (outcomes : List Outcome) (i : ℕ) (e : Event) → All (IsEventFor (length w.callers)) events → i < length events → e ≡ get_or events i e → IsWorldRun w (take i events) outcomes x → IsEventFor (length x.callers) e
event_for w x events outcomes i e all inside is run =
    let here : IsEventFor (length w.callers) e = subst (IsEventFor (length w.callers)) (sym is) (all i e inside) in
    subst (λ (n : ℕ). IsEventFor n e) (sym (run_callers w x (take i events) outcomes run)) here

pub next_callers : (w x y : WorldState) (events : List Event) (outcomes : List Outcome) (i : ℕ) (e : Event) (o : Outcome) → IsWorldRun w (take i events) outcomes x → IsEventStep x e o y → length y.callers ≡ length w.callers
next_callers w x y events outcomes i e o run step =
    (step_moves x y e o step).callers ∙ run_callers w x (take i events) outcomes run

pub broken_callers : (w x y : WorldState) (events : List Event) (outcomes : List Outcome) (i : ℕ) (e : Event) → IsWorldRun w (take i events) outcomes x → (y ≡ x) ⊎ WasStep x e y → length y.callers ≡ length w.callers
broken_callers w x y events outcomes i e run h =
    ⊎_elim
    (λ (same : y ≡ x). ap (λ (z : WorldState). length z.callers) same ∙ run_callers w x (take i events) outcomes run)
    (λ (was : WasStep x e y). next_callers w x y events outcomes i e was.given run was.step)
    h

-- ---- one caller

abbrev desk_at : WorldState → ℕ → DeskState
desk_at w c = (caller_of w c).desk

both_ways : (a c : ℕ) (P : Bool → Type 0) → (a ≡ c → P true) → (a ≢ c → P false) → P (a == c)
both_ways a c P here there =
    (elim (a == c) as (λ b. (a == c) ≡ b → P b) [
      | true ↦ λ t. here ((unsigned_Decides a c).0 t)
      | false ↦ λ f. there (λ e. let t : (a == c) ≡ true = (unsigned_Decides a c).1 e in let wrong : true ≡ false = sym t ∙ f in cc)
    ]) refl

desk_set_same : (callers : List Caller) (a c : ℕ) (x : Caller) → c < length callers → a ≡ c → (get_or (set callers a x) c new_caller).desk ≡ x.desk
desk_set_same callers a c x inside same =
    ap (λ (k : ℕ). (get_or (set callers k x) c new_caller).desk) same
    ∙ ap (λ (y : Caller). y.desk) (get_or-set_same callers c x new_caller inside)

desk_set_other : (callers : List Caller) (a c : ℕ) (x : Caller) → a ≢ c → (get_or (set callers a x) c new_caller).desk ≡ (get_or callers c new_caller).desk
desk_set_other callers a c x other =
    ap (λ (y : Caller). y.desk) (get_or-set_other callers a c x new_caller (λ e. other (sym e)))

desk_told : (w next : WorldState) (a c seen : ℕ) → c < length w.callers → next ≡ with_caller w a (record (caller_of w a) { seen = seen }) → desk_at next c ≡ desk_at w c
desk_told w next a c seen inside is =
    let x : Caller = record (caller_of w a) { seen = seen } in
    ap (λ (y : WorldState). desk_at y c) is
    ∙ both_ways a c (λ b. desk_at (with_caller w a x) c ≡ desk_at w c)
    (λ same. desk_set_same w.callers a c x inside same ∙ ap (desk_at w) same)
    (λ other. desk_set_other w.callers a c x other)

-- the graph of a version that is there stays
graph_stays : (w last : WorldState) (version : ℕ) → Moves w last → version ≤ newest_in w.history → after_all w.history.base (take (version - 1) last.history.batches) ≡ graph_in w.history version
graph_stays w last version moves there =
    let kept : take (version - 1) (w.history.batches ++ moves.more) ≡ take (version - 1) w.history.batches = take-append-le (version - 1) w.history.batches moves.more (omega arith) in
    ap (λ (l : List (List Change)). after_all w.history.base (take (version - 1) l)) moves.batches
    ∙ ap (λ (l : List (List Change)). after_all w.history.base l) kept

abbrev Alone : ℕ → WorldState → WorldState → List Event → List Outcome → Type 0
Alone c w last events outcomes = IsAlone w.history.base last.history.batches (desk_at w c) (own_requests c events outcomes) (replies_to c events outcomes)

-- what follows is that of a world with the same desk
skip : (c : ℕ) (w next last : WorldState) (events : List Event) (outcomes : List Outcome) (base : next.history.base ≡ w.history.base) (desk : DeskState) → desk_at next c ≡ desk → Alone c next last events outcomes → IsAlone w.history.base last.history.batches desk (own_requests c events outcomes) (replies_to c events outcomes)
skip c w next last events outcomes base desk is rest =
    subst (λ (d : DeskState). IsAlone w.history.base last.history.batches d (own_requests c events outcomes) (replies_to c events outcomes)) is
    (subst (λ (g : Graph). IsAlone g last.history.batches (desk_at next c) (own_requests c events outcomes) (replies_to c events outcomes)) base rest)

replied : (c : ℕ) (w next last : WorldState) (events : List Event) (outcomes : List Outcome) (caller version : ℕ) (request : Request) (r : Reply) (shown : Option Plan) → c < length w.callers → IsReplied w caller version request r shown next → Moves w last → Alone c next last events outcomes
    → IsAlone w.history.base last.history.batches (desk_at w c)
    (if caller == c then (version, request) ∷ own_requests c events outcomes else own_requests c events outcomes)
    (if caller == c then (r, shown) ∷ replies_to c events outcomes else replies_to c events outcomes)
replied c w next last events outcomes caller version request r shown inside h moves rest =
    let x : Caller = record { seen = version; desk = h.desk } in
    let base = ap (λ (y : WorldState). y.history.base) h.is_next in
    let moved = ap (λ (y : WorldState). desk_at y c) h.is_next in
    both_ways caller c
    (λ b. IsAlone w.history.base last.history.batches (desk_at w c)
    (if b then (version, request) ∷ own_requests c events outcomes else own_requests c events outcomes)
    (if b then (r, shown) ∷ replies_to c events outcomes else replies_to c events outcomes))
    (λ same.
    let own : IsTurn version (graph_in w.history version) (desk_at w c) request r shown h.desk = subst (λ (k : ℕ). IsTurn version (graph_in w.history version) (desk_at w k) request r shown h.desk) same h.turn in (
      h.desk,
      subst (λ (g : Graph). IsTurn version g (desk_at w c) request r shown h.desk) (sym (graph_stays w last version moves h.there)) own,
      skip c w next last events outcomes base h.desk (moved ∙ desk_set_same w.callers caller c x inside same) rest,
    ))
    (λ other. skip c w next last events outcomes base (desk_at w c) (moved ∙ desk_set_other w.callers caller c x other) rest)

alone_step : (c : ℕ) (w next last : WorldState) (e : Event) (o : Outcome) (events : List Event) (outcomes : List Outcome) → c < length w.callers → IsEventStep w e o next → Moves w last → Alone c next last events outcomes → Alone c w last (e ∷ events) (o ∷ outcomes)
alone_step c w next last (event.Request caller version request) (outcome.Reply r shown) events outcomes inside h moves rest =
    replied c w next last events outcomes caller version request r (plan_in shown) inside h moves rest
alone_step c w next last (event.Request caller version request) (outcome.NotAllowed seen newest) events outcomes inside h moves rest =
    skip c w next last events outcomes (ap (λ (x : WorldState). x.history.base) h.0.stays) (desk_at w c) (ap (λ (x : WorldState). desk_at x c) h.0.stays) rest
alone_step c w next last (event.Publish changes) (outcome.Published number) events outcomes inside h moves rest =
    skip c w next last events outcomes (ap (λ (x : WorldState). x.history.base) h.is_next) (desk_at w c) (ap (λ (x : WorldState). desk_at x c) h.is_next) rest
alone_step c w next last (event.Publish changes) (outcome.Refused fault) events outcomes inside h moves rest =
    skip c w next last events outcomes (ap (λ (x : WorldState). x.history.base) h.stays) (desk_at w c) (ap (λ (x : WorldState). desk_at x c) h.stays) rest
alone_step c w next last (event.Tell caller version) (outcome.Told seen) events outcomes inside h moves rest =
    skip c w next last events outcomes (ap (λ (x : WorldState). x.history.base) h.is_next) (desk_at w c) (desk_told w next caller c seen inside h.is_next) rest
alone_step c w next last (event.Tell caller version) (outcome.NotAllowed seen newest) events outcomes inside h moves rest =
    skip c w next last events outcomes (ap (λ (x : WorldState). x.history.base) h.0.stays) (desk_at w c) (ap (λ (x : WorldState). desk_at x c) h.0.stays) rest
alone_step c w next last e o events outcomes inside h moves rest = absurd h

alone : (c : ℕ) (w last : WorldState) (events : List Event) (outcomes : List Outcome) → c < length w.callers → IsWorldRun w events outcomes last → Alone c w last events outcomes
alone c w last [] [] inside h = tt
alone c w last (e ∷ events) (o ∷ outcomes) inside (next, step, rest) =
    let first = step_moves w next e o step in
    let later = run_moves next last events outcomes rest in
    let still : c < length next.callers = let same = first.callers in omega arith in
    alone_step c w next last e o events outcomes inside step (two_moves w next last first later) (alone c next last events outcomes still rest)
alone c w last events outcomes inside h = absurd h

pub alone_from_start : (base : Graph) (callers c : ℕ) (events : List Event) (outcomes : List Outcome) (last : WorldState) → c < callers → IsWorldRun (started base callers) events outcomes last → IsAlone base last.history.batches (empty_desk 8) (own_requests c events outcomes) (replies_to c events outcomes)
alone_from_start base callers c events outcomes last inside run =
    let many : length (replicate callers new_caller) ≡ callers = length-replicate callers new_caller in
    let fresh : desk_at (started base callers) c ≡ empty_desk 8 = ap (λ (x : Caller). x.desk) (get_or-replicate callers c new_caller new_caller inside) in
    subst (λ (d : DeskState). IsAlone base last.history.batches d (own_requests c events outcomes) (replies_to c events outcomes)) fresh
    (alone c (started base callers) last events outcomes (omega arith) run)
