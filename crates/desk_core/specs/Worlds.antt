-- A world: versions that are published, and callers that each ask a desk of their own. What an event comes to.
--   WorldState          the versions, and the callers, by their numbers from 0 on
--   new_caller          it has seen version 1, and its desk is empty and keeps up to 8 plans
--   started base n      version 1 alone, and so many new callers
--   caller_of w c       what caller c has seen, and its desk
--   with_caller w c x   this becomes x
--   IsSeen h x          what a caller has seen is a version
--   IsEventFor n event  it is of one of n callers, and asks what a desk answers
--   is_page r           the reply is a page
--   IsTurn ..           a step of a desk, and the plan that stands beside the reply: beside a page its plan, else none
--   IsReplied ..        the version is there and isn't older than what its caller has seen; the caller has seen it from
--                       then on, whatever the reply, which is that of its desk over this version
--   IsPublished ..      nothing keeps the batch from being published, and it is; the new newest number is told
--   IsRefused ..        something does, which is told, and nothing changes
--   IsTold ..           the version is there; the caller has seen it from then on, or a newer one, which is told
--   IsNotAllowed ..     what the caller has seen and the newest number are told, and nothing changes
--   IsEventStep w event outcome next   what an event comes to: a request isn't allowed exactly where its version is older
--                       than what its caller has seen, or isn't there; a told version, exactly where it isn't there
--   IsWorldRun w events outcomes last  events that lead from a world to the last one, each with what it comes to
--   IsRunOfSome w events last   a run of the events up to one of them
--   own_requests c events outcomes   the allowed requests of a caller, each with its version
--   replies_to c events outcomes     their replies, each with the plan that stands beside it
--   IsAlone base batches desk asked replies   one desk by itself gives these replies, each over its version
use Rattle.std.specs.Prelude.{◌≡◌, ℕ, ◌+◌, ◌-◌, ◌<◌, ◌≤◌, ◌==◌, ◌⊎◌, max, Bool, true, false, if◌then◌else◌, List, [], ◌∷◌, ◌++◌, take, replicate, slice_set, slice_index_or, Option, Some, None}
use Rattle.std.specs.declared.sync.Arc.{Arc}
use Rattle.road_model.specs.declared.answer.Plan.{Plan}
use Rattle.road_model.specs.declared.change.Change.{Change}
use Rattle.road_model.specs.declared.change.ChangeFault.{ChangeFault}
use Rattle.road_model.specs.declared.request.Reply.{Reply}
use Rattle.road_model.specs.declared.request.Reply.TheVariants as reply
use Rattle.road_model.specs.declared.request.Request.{Request}
use Rattle.road_model.specs.Graph.{Graph}
use Rattle.road_model.specs.Changes.{after_all}
use Rattle.desk_core.specs.declared.caller.Caller.{Caller}
use Rattle.desk_core.specs.declared.event.Event.{Event}
use Rattle.desk_core.specs.declared.event.Event.TheVariants as event
use Rattle.desk_core.specs.declared.event.Outcome.{Outcome}
use Rattle.desk_core.specs.declared.event.Outcome.TheVariants as outcome
use Rattle.desk_core.specs.Desks.{DeskState, empty_desk, first_plan, IsDeskRequest, IsDeskStep}
use Rattle.desk_core.specs.Histories.{History, newest_in, graph_in, fault_in, grown}

pub record WorldState : Type 0 where
  pub history : History
  pub callers : List Caller

abbrev pub new_caller : Caller
new_caller = record { seen = 1; desk = empty_desk 8 }

abbrev pub started : Graph → ℕ → WorldState
started base callers = record { history = record { base = base; batches = [] }; callers = replicate callers new_caller }

abbrev pub caller_of : WorldState → ℕ → Caller
caller_of w caller = slice_index_or w.callers caller new_caller

abbrev pub with_caller : WorldState → ℕ → Caller → WorldState
with_caller w caller next = record w { callers = slice_set w.callers caller next }

pub record IsSeen (h : History) (caller : Caller) : Type 0 where
  pub first : 1 ≤ caller.seen
  pub last : caller.seen ≤ newest_in h

abbrev pub IsEventFor : ℕ → Event → Type 0
IsEventFor callers (event.Request caller version request) = (caller < callers) × IsDeskRequest request
IsEventFor callers (event.Publish changes) = Unit {0}
IsEventFor callers (event.Tell caller version) = caller < callers

abbrev pub is_page : Reply → Bool
is_page (reply.Page number span more) = true
is_page r = false

abbrev pub plan_in : {Z : Type 0} → Option (Arc Plan Z) → Option Plan
plan_in None = None
plan_in (Some plan) = Some plan.value

pub record IsTurn (number : ℕ) (graph : Graph) (desk : DeskState) (request : Request) (r : Reply) (shown : Option Plan) (next : DeskState) : Type 0 where
  pub step : IsDeskStep number graph desk request r (first_plan next) next
  pub is_shown : shown ≡ (if is_page r then first_plan next else None)

pub record IsReplied (w : WorldState) (caller version : ℕ) (request : Request) (r : Reply) (shown : Option Plan) (next : WorldState) : Type 0 where
  pub fresh : (caller_of w caller).seen ≤ version
  pub there : version ≤ newest_in w.history
  pub desk : DeskState
  pub turn : IsTurn version (graph_in w.history version) (caller_of w caller).desk request r shown desk
  pub is_next : next ≡ with_caller w caller (record { seen = version; desk = desk })

pub record IsPublished (w : WorldState) (changes : List Change) (number : ℕ) (next : WorldState) : Type 0 where
  pub accepted : fault_in w.history changes ≡ None
  pub is_number : number ≡ newest_in w.history + 1
  pub is_next : next ≡ record w { history = grown w.history changes }

pub record IsRefused (w : WorldState) (changes : List Change) (fault : ChangeFault) (next : WorldState) : Type 0 where
  pub is_fault : fault_in w.history changes ≡ Some fault
  pub stays : next ≡ w

pub record IsTold (w : WorldState) (caller version seen : ℕ) (next : WorldState) : Type 0 where
  pub there : version ≤ newest_in w.history
  pub is_seen : seen ≡ max (caller_of w caller).seen version
  pub is_next : next ≡ with_caller w caller (record (caller_of w caller) { seen = seen })

pub record IsNotAllowed (w : WorldState) (caller seen newest : ℕ) (next : WorldState) : Type 0 where
  pub is_seen : seen ≡ (caller_of w caller).seen
  pub is_newest : newest ≡ newest_in w.history
  pub stays : next ≡ w

abbrev pub IsEventStep : WorldState → Event → Outcome → WorldState → Type 0
IsEventStep w (event.Request caller version request) (outcome.Reply r shown) next =
    IsReplied w caller version request r (plan_in shown) next
IsEventStep w (event.Request caller version request) (outcome.NotAllowed seen newest) next =
    IsNotAllowed w caller seen newest next × ((version < seen) ⊎ (newest < version))
IsEventStep w (event.Publish changes) (outcome.Published number) next = IsPublished w changes number next
IsEventStep w (event.Publish changes) (outcome.Refused fault) next = IsRefused w changes fault next
IsEventStep w (event.Tell caller version) (outcome.Told seen) next = IsTold w caller version seen next
IsEventStep w (event.Tell caller version) (outcome.NotAllowed seen newest) next =
    IsNotAllowed w caller seen newest next × (newest < version)
IsEventStep w e o next = ⊥

abbrev pub IsWorldRun : WorldState → List Event → List Outcome → WorldState → Type 0
IsWorldRun w [] [] last = last ≡ w
IsWorldRun w (e ∷ events) (o ∷ outcomes) last =
    (next : WorldState) × IsEventStep w e o next × IsWorldRun next events outcomes last
IsWorldRun w events outcomes last = ⊥

pub record IsRunOfSome (w : WorldState) (events : List Event) (last : WorldState) : Type 0 where
  pub first : List Event
  pub rest : List Event
  pub outcomes : List Outcome
  pub are : events ≡ first ++ rest
  pub run : IsWorldRun w first outcomes last

abbrev pub own_requests : ℕ → List Event → List Outcome → List (ℕ × Request)
own_requests c (event.Request caller version request ∷ events) (outcome.Reply r shown ∷ outcomes) =
    if caller == c then (version, request) ∷ own_requests c events outcomes else own_requests c events outcomes
own_requests c (e ∷ events) (o ∷ outcomes) = own_requests c events outcomes
own_requests c events outcomes = []

abbrev pub replies_to : ℕ → List Event → List Outcome → List (Reply × Option Plan)
replies_to c (event.Request caller version request ∷ events) (outcome.Reply r shown ∷ outcomes) =
    if caller == c then (r, plan_in shown) ∷ replies_to c events outcomes else replies_to c events outcomes
replies_to c (e ∷ events) (o ∷ outcomes) = replies_to c events outcomes
replies_to c events outcomes = []

abbrev pub IsAlone : Graph → List (List Change) → DeskState → List (ℕ × Request) → List (Reply × Option Plan) → Type 0
IsAlone base batches desk [] [] = Unit {0}
IsAlone base batches desk (asked ∷ more) (given ∷ replies) =
    (next : DeskState)
    × IsTurn asked.0 (after_all base (take (asked.0 - 1) batches)) desk asked.1 given.0 given.1 next
    × IsAlone base batches next more replies
IsAlone base batches desk asked replies = ⊥
