-- The plan that a page of a desk is of.
use Rattle.std.proofs.Common.{◌≡◌, ℕ, ◌+◌, ◌-◌, ◌≤◌, min, length, Option, Some, None, Result, Ok, Err, sym, ◌∙◌, subst, arith, inl, inr}
use Rattle.road_model.specs.declared.answer.Optimum.{Optimum}
use Rattle.road_model.specs.declared.answer.PageSpan.{PageSpan}
use Rattle.road_model.specs.declared.answer.Plan.{Plan}
use Rattle.road_model.specs.declared.answer.Plan.TheVariants.{NoPath, Found}
use Rattle.road_model.specs.declared.answer.Query.{Query}
use Rattle.road_model.specs.declared.answer.Verdict.{Verdict}
use Rattle.road_model.specs.declared.request.Cursor.{Cursor}
use Rattle.road_model.specs.declared.request.ErrorKind.{ErrorKind}
use Rattle.road_model.specs.declared.request.ErrorKind.TheVariants as error
use Rattle.road_model.specs.declared.request.Reply.{Reply}
use Rattle.road_model.specs.declared.request.Reply.TheVariants as reply
use Rattle.road_model.specs.declared.request.Request.{Request}
use Rattle.road_model.specs.Graph.{Graph}
use Rattle.road_model.specs.Answers.{IsPage}
use Rattle.desk_core.specs.declared.refusals.Asked.{Asked}
use Rattle.desk_core.specs.declared.refusals.Asked.TheVariants as asked
use Rattle.desk_core.specs.Refusals.{outcome}
use Rattle.desk_core.specs.Replies.{best_reply, more_of, why_reply, IsPageReply}
use Rattle.desk_core.specs.Desks.{DeskState, desk_limits, IsDeskAnswer, IsDeskAnswered, IsDeskStep, ShowsSpan}

pub span_inside : (total size offset : ℕ) (span : PageSpan) → IsPage total size offset span → span.first + span.count ≤ total
span_inside total size offset span p =
    let first : span.first ≡ min offset total = p.is_first in
    let count : span.count ≡ min size (total - span.first) = p.is_count in
    omega (arith, first, count)

same_span : (n m : ℕ) (a b : PageSpan) (c d : Option Cursor) → reply.Page n a c ≡ reply.Page m b d → a ≡ b
same_span n m a b c d e = cc

best_is_no_page : (n m : ℕ) (o : Option Optimum) (span : PageSpan) (more : Option Cursor) → best_reply n o ≡ reply.Page m span more → ⊥
best_is_no_page n m None span more e = cc
best_is_no_page n m (Some optimum) span more e = cc

why_is_no_page : (n m via : ℕ) (v : Option Verdict) (span : PageSpan) (more : Option Cursor) → why_reply n via v ≡ reply.Page m span more → ⊥
why_is_no_page n m via None span more e = cc
why_is_no_page n m via (Some verdict) span more e = cc

page_shows : (number size offset m : ℕ) (q : Query) (plan : Plan) (r : Reply) (shown : Option Plan) (span : PageSpan) (more : Option Cursor) → shown ≡ Some plan → IsPageReply number q size offset plan r → r ≡ reply.Page m span more → ShowsSpan span shown
page_shows number size offset m q NoPath r shown span more is p e = absurd (let f : reply.NoPath number ≡ reply.Page m span more = sym p ∙ e in cc)
page_shows number size offset m q (Found optimum others) r shown span more is p e =
    let same : p.span ≡ span = same_span number m p.span span (more_of number q size p.span) more (sym p.is ∙ e) in
    record {
      optimum = optimum;
      others = others;
      is_shown = is;
      inside = subst (λ (s : PageSpan). s.first + s.count ≤ 1 + length others) same (span_inside (1 + length others) size offset p.span p.page);
    }

answer_shows : (number m : ℕ) (g : Graph) (desk next : DeskState) (a : Asked) (r : Reply) (shown : Option Plan) (span : PageSpan) (more : Option Cursor) → IsDeskAnswer number g desk a r shown next → r ≡ reply.Page m span more → ShowsSpan span shown
answer_shows number m g desk next (asked.Best from to) r shown span more h e = absurd (best_is_no_page number m h.0.optimum span more (sym h.0.is ∙ e))
answer_shows number m g desk next (asked.Page version q size offset) r shown span more h e = page_shows version size offset m q h.plan r shown span more h.is_shown h.is e
answer_shows number m g desk next (asked.Why q via) r shown span more h e = absurd (why_is_no_page number m via h.0.verdict span more (sym h.0.is ∙ e))
answer_shows number m g desk next asked.Version r shown span more h e = absurd (let f : reply.Version number ≡ reply.Page m span more = sym h.0 ∙ e in cc)
answer_shows number m g desk next (asked.Length change) r shown span more h e = absurd h
answer_shows number m g desk next asked.Publish r shown span more h e = absurd h
answer_shows number m g desk next asked.Quit r shown span more h e = absurd h

answered_shows : (number m : ℕ) (g : Graph) (desk next : DeskState) (request : Request) (o : Result Asked ErrorKind) (r : Reply) (shown : Option Plan) (span : PageSpan) (more : Option Cursor) → IsDeskAnswered number g desk request o r shown next → r ≡ reply.Page m span more → ShowsSpan span shown
answered_shows number m g desk next request (Err kind) r shown span more h e = absurd (let f : reply.Error kind ≡ reply.Page m span more = sym h.0 ∙ e in cc)
answered_shows number m g desk next request (Ok a) r shown span more (inl h) e = answer_shows number m g desk next a r shown span more h e
answered_shows number m g desk next request (Ok a) r shown span more (inr h) e = absurd (let f : reply.Error error.Memory ≡ reply.Page m span more = sym h.0.is ∙ e in cc)

pub step_shows : (number m : ℕ) (g : Graph) (desk next : DeskState) (request : Request) (r : Reply) (shown : Option Plan) (span : PageSpan) (more : Option Cursor) → IsDeskStep number g desk request r shown next → r ≡ reply.Page m span more → ShowsSpan span shown
step_shows number m g desk next request r shown span more h e = answered_shows number m g desk next request (outcome (desk_limits number g desk request) request) r shown span more h e
