-- What is replied to a request, and what is kept afterwards.
--   numbers_in q      the numbers of a query, as they were given
--   more_of ..        the cursor of the page after a page, where items stand after it
--   more_in r         the cursor that a reply shows
--   IsSpanReply ..    the reply that shows a page of a plan of so many items
--   IsPageReply ..    the reply that shows a page of a plan, or that no path exists
--   best_reply, why_reply   the reply that shows an optimum, or a verdict; or that no path exists
--   IsBest ..         the reply shows the optimum of the graph
--   IsPaged ..        the reply shows a page of the answer of the graph, and the plan shown is that answer
--   IsWhy ..          the reply shows the verdict on the via vertex
--   IsAnswerTo g state asked reply shown next   the reply says what was asked of the version that it names, shown is the
--                     plan that a page is of, and the state goes on to the next
--   may_refuse_memory the reply may be that memory was refused: not where only the version is asked for, or where the
--                     answer is kept
--   IsMemoryRefused ..   that memory was refused is replied, where it may be
--   IsAnswered ..     what IsStep says, of a request whose tests came to this refusal, or to what is asked
--   IsStep g state request reply shown next     the reply is the refusal of the request, and the state stays; else it is
--                     the answer, or that memory was refused and the state stays; g is the graph of version 1
use Rattle.std.specs.Prelude.{◌≡◌, ℕ, ◌+◌, ◌⊎◌, not, Bool, true, false, IsTrue, length, Option, Some, None, Result, Ok, Err, if◌then◌else◌}
use Rattle.road_model.specs.declared.answer.Optimum.{Optimum}
use Rattle.road_model.specs.declared.answer.PageSpan.{PageSpan}
use Rattle.road_model.specs.declared.answer.Plan.{Plan}
use Rattle.road_model.specs.declared.answer.Plan.TheVariants.{NoPath, Found}
use Rattle.road_model.specs.declared.answer.Query.{Query}
use Rattle.road_model.specs.declared.answer.Verdict.{Verdict}
use Rattle.road_model.specs.declared.request.Cursor.{Cursor}
use Rattle.road_model.specs.declared.request.CursorQuery.{CursorQuery}
use Rattle.road_model.specs.declared.request.ErrorKind.{ErrorKind}
use Rattle.road_model.specs.declared.request.ErrorKind.TheVariants as error
use Rattle.road_model.specs.declared.request.Reply.{Reply}
use Rattle.road_model.specs.declared.request.Reply.TheVariants as reply
use Rattle.road_model.specs.declared.request.Request.{Request}
use Rattle.road_model.specs.declared.request.Request.TheVariants as the
use Rattle.road_model.specs.Graph.{Graph}
use Rattle.road_model.specs.Canonical.{IsOptimum}
use Rattle.road_model.specs.Answers.{IsAnswer, IsPage}
use Rattle.road_model.specs.Verdicts.{IsVerdictOf}
use Rattle.desk_core.specs.declared.refusals.Limits.{Limits}
use Rattle.desk_core.specs.declared.refusals.Asked.{Asked}
use Rattle.desk_core.specs.declared.refusals.Asked.TheVariants as asked
use Rattle.desk_core.specs.Refusals.{outcome}
use Rattle.desk_core.specs.States.{State, newest, graph_at, used, limits_in, staging, published}

abbrev pub numbers_in : Query → CursorQuery
numbers_in q = record {
  from = q.from;
  to = q.to;
  gamma = (q.gamma.num, q.gamma.den);
  alpha = (q.alpha.num, q.alpha.den);
  epsilon = (q.epsilon.num, q.epsilon.den);
}

-- only a page that items stand after shows one, of the next page
abbrev pub more_in : Reply → Option Cursor
more_in (reply.Page number span more) = more
more_in r = None

abbrev pub more_of : ℕ → Query → ℕ → PageSpan → Option Cursor
more_of number q size span =
    if span.more then Some (record { version = number; query = numbers_in q; size = size; offset = span.first + span.count })
    else None

pub record IsSpanReply (number : ℕ) (q : Query) (size offset total : ℕ) (r : Reply) : Type 0 where
  pub span : PageSpan
  pub page : IsPage total size offset span
  pub is : r ≡ reply.Page number span (more_of number q size span)

abbrev pub IsPageReply : ℕ → Query → ℕ → ℕ → Plan → Reply → Type 0
IsPageReply number q size offset NoPath r = r ≡ reply.NoPath number
IsPageReply number q size offset (Found optimum others) r = IsSpanReply number q size offset (1 + length others) r

abbrev pub best_reply : ℕ → Option Optimum → Reply
best_reply number None = reply.NoPath number
best_reply number (Some optimum) = reply.Best number optimum

abbrev pub why_reply : ℕ → ℕ → Option Verdict → Reply
why_reply number via None = reply.NoPath number
why_reply number via (Some verdict) = reply.Why number via verdict

pub record IsBest (g : Graph) (number s t : ℕ) (r : Reply) : Type 0 where
  pub optimum : Option Optimum
  pub is_optimum : IsOptimum g s t optimum
  pub is : r ≡ best_reply number optimum

pub record IsPaged (g : Graph) (number : ℕ) (q : Query) (size offset : ℕ) (r : Reply) (shown : Option Plan) : Type 0 where
  pub plan : Plan
  pub is_answer : IsAnswer g q plan
  pub is_shown : shown ≡ Some plan
  pub is : IsPageReply number q size offset plan r

pub record IsWhy (g : Graph) (number : ℕ) (q : Query) (via : ℕ) (r : Reply) : Type 0 where
  pub verdict : Option Verdict
  pub is_verdict : IsVerdictOf g q via verdict
  pub is : r ≡ why_reply number via verdict

abbrev pub IsAnswerTo : Graph → State → Asked → Reply → Option Plan → State → Type 0
IsAnswerTo g state (asked.Best from to) r shown next =
    IsBest (graph_at g state (newest state)) (newest state) from to r × (next ≡ state)
IsAnswerTo g state (asked.Page version q size offset) r shown next =
    IsPaged (graph_at g state version) version q size offset r shown
    × (next ≡ used state (record { version = version; query = numbers_in q }))
IsAnswerTo g state (asked.Why q via) r shown next =
    IsWhy (graph_at g state (newest state)) (newest state) q via r × (next ≡ state)
IsAnswerTo g state asked.Version r shown next = (r ≡ reply.Version (newest state)) × (next ≡ state)
IsAnswerTo g state (asked.Length change) r shown next =
    (r ≡ reply.Staged (length state.staged + 1)) × (next ≡ staging state change)
IsAnswerTo g state asked.Publish r shown next = (r ≡ reply.Published (newest state + 1)) × (next ≡ published state)
IsAnswerTo g state asked.Quit r shown next = ⊥

abbrev pub may_refuse_memory : Limits → Request → Bool
may_refuse_memory limits the.Version = false
may_refuse_memory limits (the.Route q size since) = not limits.kept
may_refuse_memory limits (the.Next c) = not limits.kept
may_refuse_memory limits r = true

pub record IsMemoryRefused (limits : Limits) (request : Request) (r : Reply) : Type 0 where
  pub may : IsTrue (may_refuse_memory limits request)
  pub is : r ≡ reply.Error error.Memory

abbrev pub IsAnswered : Graph → State → Request → Result Asked ErrorKind → Reply → Option Plan → State → Type 0
IsAnswered g state request (Err kind) r shown next = (r ≡ reply.Error kind) × (next ≡ state)
IsAnswered g state request (Ok asked) r shown next =
    IsAnswerTo g state asked r shown next ⊎ (IsMemoryRefused (limits_in g state request) request r × (next ≡ state))

abbrev pub IsStep : Graph → State → Request → Reply → Option Plan → State → Type 0
IsStep g state request r shown next = IsAnswered g state request (outcome (limits_in g state request) request) r shown next
