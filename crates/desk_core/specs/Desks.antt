-- One desk, and what it does with a request over one version of a graph.
--   Kept                a plan that is kept, and its key
--   DeskState           how many plans may be kept, and those that are, the last used first
--   empty_desk room     none yet, with room for so many
--   keys_of desk        the keys of the kept plans
--   plan_at desk key    the plan that is kept under a key
--   keeps desk key      a plan is kept under it
--   first_plan desk     the plan that was used last
--   put_first desk key plan   this plan becomes the last used; where there is no room the one used longest ago goes
--   key_of version q    the key of a query's plan in a version
--   desk_limits number graph desk r   what a request is tested against, where the graph is that of the pinned version
--   IsDeskRequest r     it asks about routes, or for the version
--   IsDeskQuestion graph asked   the same of what is asked, with its vertices and the size of its page in range
--   NeedsMemory desk asked       it isn't the version, nor a page of a kept plan
--   IsPlanAt graph q kept plan   the plan is the kept one; where none is kept, the answer of the graph
--   IsUsed graph q desk version plan next   it is the plan at the key of this query, and it becomes the last used
--   IsBrought graph q desk version next     there is such a plan, and it is the first
--   IsMoved desk key next   the plan that is kept under the key becomes the last used
--   HasSmallCursor r    where a cursor is shown, its numbers are below 10^19 if its version is
--   IsDeskPage ..       the reply shows a page of the plan at the key, and that plan becomes the last used
--   IsDeskAnswer ..     the reply says what was asked; only a page changes what is kept
--   IsDeskAnswered ..   what IsDeskStep says, of a request whose tests came to this refusal, or to what is asked
--   IsDeskStep number graph desk request reply shown next   the reply is the refusal of the request, and the desk stays;
--                       else it is the answer, or that memory was refused and the desk stays; shown is the plan that a
--                       page is of
--   ShowsSpan span shown   the plan that is shown has the items of the span
use Rattle.std.specs.Prelude.{◌≡◌, ◌≤◌, ◌+◌, length, ◌<◌, ◌^◌, ℕ, ◌⊎◌, IfSome, not, Bool, false, List, [], ◌∷◌, map, take, filter, slice_get, is_some, option_map, Option, Some, None, Result, Ok, Err}
use Rattle.std.specs.List.{find}
use Rattle.road_model.specs.declared.answer.Optimum.{Optimum}
use Rattle.road_model.specs.declared.answer.PageSpan.{PageSpan}
use Rattle.road_model.specs.declared.answer.Plan.{Plan}
use Rattle.road_model.specs.declared.answer.Plan.TheVariants.{Found}
use Rattle.road_model.specs.declared.answer.Query.{Query}
use Rattle.road_model.specs.declared.answer.Route.{Route}
use Rattle.road_model.specs.declared.request.ErrorKind.{ErrorKind}
use Rattle.road_model.specs.declared.request.Reply.{Reply}
use Rattle.road_model.specs.declared.request.Reply.TheVariants as reply
use Rattle.road_model.specs.declared.request.Request.{Request}
use Rattle.road_model.specs.declared.request.Request.TheVariants as the
use Rattle.road_model.specs.declared.request.Cursor.{Cursor}
use Rattle.road_model.specs.Graph.{Graph, IsVertex, arc_count}
use Rattle.road_model.specs.Answers.{IsAnswer}
use Rattle.route_ranking.specs.Cursors.{IsSmall}
use Rattle.desk_core.specs.declared.refusals.Limits.{Limits}
use Rattle.desk_core.specs.declared.refusals.Asked.{Asked}
use Rattle.desk_core.specs.declared.refusals.Asked.TheVariants as asked
use Rattle.desk_core.specs.Refusals.{outcome}
use Rattle.desk_core.specs.States.{Key, same_key, key_in}
use Rattle.desk_core.specs.Replies.{more_in, numbers_in, IsPageReply, IsBest, IsWhy, IsMemoryRefused}

pub record Kept : Type 0 where
  pub key : Key
  pub plan : Plan

pub record DeskState : Type 0 where
  pub room : ℕ
  pub kept : List Kept

abbrev pub empty_desk : ℕ → DeskState
empty_desk room = record { room = room; kept = [] }

abbrev pub keys_of : DeskState → List Key
keys_of desk = map (λ (k : Kept). k.key) desk.kept

abbrev pub plan_at : DeskState → Key → Option Plan
plan_at desk key = option_map (λ (k : Kept). k.plan) (find (λ (k : Kept). same_key key k.key) desk.kept)

abbrev pub keeps : DeskState → Option Key → Bool
keeps desk None = false
keeps desk (Some key) = is_some (plan_at desk key)

abbrev pub first_plan : DeskState → Option Plan
first_plan desk = option_map (λ (k : Kept). k.plan) (slice_get desk.kept 0)

abbrev pub put_first : DeskState → Key → Plan → DeskState
put_first desk key plan = record desk {
  kept = take desk.room (record { key = key; plan = plan } ∷ filter (λ (k : Kept). not (same_key key k.key)) desk.kept);
}

abbrev pub key_of : ℕ → Query → Key
key_of version q = record { version = version; query = numbers_in q }

abbrev pub desk_limits : ℕ → Graph → DeskState → Request → Limits
desk_limits number graph desk r = record {
  vertices = graph.vertices;
  arcs = arc_count graph;
  number = number;
  kept = keeps desk (key_in number r);
}

abbrev pub IsDeskRequest : Request → Type 0
IsDeskRequest (the.Length arc length) = ⊥
IsDeskRequest the.Publish = ⊥
IsDeskRequest the.Quit = ⊥
IsDeskRequest r = Unit {0}

abbrev pub IsDeskQuestion : Graph → Asked → Type 0
IsDeskQuestion graph (asked.Best from to) = IsVertex graph.vertices from × IsVertex graph.vertices to
IsDeskQuestion graph (asked.Page version q size offset) =
    IsVertex graph.vertices q.from × IsVertex graph.vertices q.to × (size ≤ 64)
IsDeskQuestion graph (asked.Why q via) =
    IsVertex graph.vertices q.from × IsVertex graph.vertices q.to × IsVertex graph.vertices via
IsDeskQuestion graph asked.Version = Unit {0}
IsDeskQuestion graph (asked.Length change) = ⊥
IsDeskQuestion graph asked.Publish = ⊥
IsDeskQuestion graph asked.Quit = ⊥

abbrev pub NeedsMemory : DeskState → Asked → Type 0
NeedsMemory desk (asked.Page version q size offset) = plan_at desk (key_of version q) ≡ None
NeedsMemory desk asked.Version = ⊥
NeedsMemory desk a = Unit {0}

abbrev pub IsPlanAt : Graph → Query → Option Plan → Plan → Type 0
IsPlanAt graph q None plan = IsAnswer graph q plan
IsPlanAt graph q (Some kept) plan = plan ≡ kept

pub record IsUsed (graph : Graph) (q : Query) (desk : DeskState) (version : ℕ) (plan : Plan) (next : DeskState) : Type 0 where
  pub is_plan : IsPlanAt graph q (plan_at desk (key_of version q)) plan
  pub is_next : next ≡ put_first desk (key_of version q) plan

pub record IsBrought (graph : Graph) (q : Query) (desk : DeskState) (version : ℕ) (next : DeskState) : Type 0 where
  pub plan : Plan
  pub is_first : first_plan next ≡ Some plan
  pub used : IsUsed graph q desk version plan next

pub record IsMoved (desk : DeskState) (key : Key) (next : DeskState) : Type 0 where
  pub plan : Plan
  pub is_kept : plan_at desk key ≡ Some plan
  pub is_first : first_plan next ≡ Some plan
  pub is_next : next ≡ put_first desk key plan

abbrev pub HasSmallCursor : Reply → Type 0
HasSmallCursor r = IfSome (more_in r) (λ (c : Cursor). c.version < 10 ^ 19 → IsSmall c)

pub record IsDeskPage (graph : Graph) (desk : DeskState) (version : ℕ) (q : Query) (size offset : ℕ) (r : Reply) (shown : Option Plan) (next : DeskState) : Type 0 where
  pub plan : Plan
  pub is_shown : shown ≡ Some plan
  pub is : IsPageReply version q size offset plan r
  pub used : IsUsed graph q desk version plan next

abbrev pub IsDeskAnswer : ℕ → Graph → DeskState → Asked → Reply → Option Plan → DeskState → Type 0
IsDeskAnswer number graph desk (asked.Best from to) r shown next = IsBest graph number from to r × (next ≡ desk)
IsDeskAnswer number graph desk (asked.Page version q size offset) r shown next =
    IsDeskPage graph desk version q size offset r shown next
IsDeskAnswer number graph desk (asked.Why q via) r shown next = IsWhy graph number q via r × (next ≡ desk)
IsDeskAnswer number graph desk asked.Version r shown next = (r ≡ reply.Version number) × (next ≡ desk)
IsDeskAnswer number graph desk (asked.Length change) r shown next = ⊥
IsDeskAnswer number graph desk asked.Publish r shown next = ⊥
IsDeskAnswer number graph desk asked.Quit r shown next = ⊥

abbrev pub IsDeskAnswered : ℕ → Graph → DeskState → Request → Result Asked ErrorKind → Reply → Option Plan → DeskState → Type 0
IsDeskAnswered number graph desk request (Err kind) r shown next = (r ≡ reply.Error kind) × (next ≡ desk)
IsDeskAnswered number graph desk request (Ok asked) r shown next =
    IsDeskAnswer number graph desk asked r shown next
    ⊎ (IsMemoryRefused (desk_limits number graph desk request) request r × (next ≡ desk))

abbrev pub IsDeskStep : ℕ → Graph → DeskState → Request → Reply → Option Plan → DeskState → Type 0
IsDeskStep number graph desk request r shown next =
    IsDeskAnswered number graph desk request (outcome (desk_limits number graph desk request) request) r shown next

pub record ShowsSpan (span : PageSpan) (shown : Option Plan) : Type 0 where
  pub optimum : Optimum
  pub others : List Route
  pub is_shown : shown ≡ Some (Found optimum others)
  pub inside : span.first + span.count ≤ 1 + length others
