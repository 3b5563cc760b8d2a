-- Runs of requests, and the pages of one answer among their replies.
--   Turn                a request with its reply, and the plan that a page shows
--   IsRun g state turns last    turns that lead from a state to the last one, each of them a step
--   Follow request turns pages  among the turns, in their order: a page that answers the request, the page that its cursor
--                       asks for, and so on up to a page without a cursor; each with the number of its version
--   paths_in o others   the paths of an answer: its optimum, and then its alternatives
--   spans_of pages      the items of these pages
--   PagesJoin g state last q since pages   the pages are of one version, which is no older than the newest at the
--                       first state and than what was asked for, and joined they are its whole answer
--   IsReplyChain number q size offset plan replies   the pages of a plan from an offset on, each where the cursor of
--                       the one before points, up to one without a cursor
--   HasReplyChain ..    there are such pages from the first item on, no more than the answer has paths
use Rattle.std.specs.Prelude.{◌≡◌, ℕ, ◌+◌, ◌≤◌, ◌⊎◌, List, [], ◌∷◌, map, length, Option, MatchOption}
use Rattle.std.specs.List.{AllByRecursion}
use Rattle.road_model.specs.declared.answer.Optimum.{Optimum}
use Rattle.road_model.specs.declared.answer.PageSpan.{PageSpan}
use Rattle.road_model.specs.declared.answer.Plan.{Plan}
use Rattle.road_model.specs.declared.answer.Plan.TheVariants.{Found}
use Rattle.road_model.specs.declared.answer.Query.{Query}
use Rattle.road_model.specs.declared.answer.Route.{Route}
use Rattle.road_model.specs.declared.request.Cursor.{Cursor}
use Rattle.road_model.specs.declared.request.CursorQuery.{CursorQuery}
use Rattle.road_model.specs.declared.request.Reply.{Reply}
use Rattle.road_model.specs.declared.request.Reply.TheVariants as reply
use Rattle.road_model.specs.declared.request.Request.{Request}
use Rattle.road_model.specs.declared.request.Request.TheVariants as the
use Rattle.road_model.specs.Graph.{Graph}
use Rattle.road_model.specs.Answers.{IsAnswer}
use Rattle.road_model.specs.Queries.{query_of}
use Rattle.route_ranking.specs.Chains.{joined}
use Rattle.desk_core.specs.States.{State, newest, graph_at}
use Rattle.desk_core.specs.Replies.{IsStep, IsPageReply, more_in}

pub record Turn : Type 0 where
  pub request : Request
  pub reply : Reply
  pub shown : Option Plan

abbrev pub IsRun : Graph → State → List Turn → State → Type 0
IsRun g state [] last = last ≡ state
IsRun g state (turn ∷ turns) last =
    (next : State) × IsStep g state turn.request turn.reply turn.shown next × IsRun g next turns last

abbrev pub Follow : Request → List Turn → List (ℕ × PageSpan) → Type 0
Follow request [] pages = ⊥
Follow request (turn ∷ turns) pages =
    Follow request turns pages
    ⊎ ((page : ℕ × PageSpan) × (more : Option Cursor) × (later : List (ℕ × PageSpan))
    × (turn.request ≡ request) × (turn.reply ≡ reply.Page page.0 page.1 more) × (pages ≡ page ∷ later)
    × MatchOption more (later ≡ []) (λ c. Follow (the.Next c) turns later))

abbrev pub paths_in : Optimum → List Route → List (List ℕ)
paths_in optimum others = optimum.arcs ∷ map (λ (r : Route). r.arcs) others

abbrev pub spans_of : List (ℕ × PageSpan) → List PageSpan
spans_of pages = map (λ (page : ℕ × PageSpan). page.1) pages

pub record PagesJoin (g : Graph) (state last : State) (q : CursorQuery) (since : Option ℕ) (pages : List (ℕ × PageSpan)) : Type 0 where
  pub number : ℕ
  pub optimum : Optimum
  pub others : List Route
  pub one_version : AllByRecursion (λ (page : ℕ × PageSpan). page.0 ≡ number) pages
  pub is_published : number ≤ newest last
  pub is_fresh : newest state ≤ number
  pub as_asked : MatchOption since (Unit {0}) (λ k. k ≤ number)
  pub is_answer : IsAnswer (graph_at g last number) (query_of q) (Found optimum others)
  pub whole : joined (spans_of pages) (paths_in optimum others) ≡ paths_in optimum others

abbrev pub IsReplyChain : ℕ → Query → ℕ → ℕ → Plan → List Reply → Type 0
IsReplyChain number q size offset plan [] = ⊥
IsReplyChain number q size offset plan (r ∷ rs) =
    IsPageReply number q size offset plan r × MatchOption (more_in r) (rs ≡ []) (λ c. IsReplyChain number q size c.offset plan rs)

pub record HasReplyChain (number : ℕ) (q : Query) (size : ℕ) (optimum : Optimum) (others : List Route) : Type 0 where
  pub replies : List Reply
  pub chain : IsReplyChain number q size 0 (Found optimum others) replies
  pub few : length replies ≤ 1 + length others
