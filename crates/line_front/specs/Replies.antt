-- Replies as lines. Each ends with a line feed, which is byte 10.
--   arcs_text          the numbers of a walk, each after a space
--   line_text line     the line with its line feed
--   numbered word n    a word with a number after it
--   optimum_text o     an optimum
--   head_text, tail_text   an alternative up to its shared length, and from its plateau up to its arcs
--   route_text r       an alternative
--   item_texts         the items of a plan: its optimum, then its alternatives in order
--   items_text span plan   the lines of the items that a span has in a plan; none where there is no plan, or no path
--   more_text cursor   the line of the cursor of the next page, where there is one
--   ok_text number     the first line of a reply in the version of this number
--   end_text           the last line of a reply of several lines
--   best_text          the lines of an optimum
--   page_text          a page of a plan
--   pair_text          two places, and the distance between their vertices
--   verdict_text       a verdict, from its word on
--   why_text           the lines of a verdict
--   spaced_text number   a number after a space, where there is one
--   error_text         an error, from its word on
--   reply_text r plan  the lines of a reply; a page is one of the plan beside it
--   HasSpan span plan  the plan has the items of the span
--   HasItems r plan    where the reply is a page, the plan has the items of its span
use Rattle.std.specs.Prelude.{ℕ, ◌+◌, ◌≤◌, List, [], ◌∷◌, ◌++◌, Option, Some, None, length, map, take, drop, codes, decimal}
use Rattle.std.specs.List.{flat_map}
use Rattle.road_model.specs.declared.answer.Optimum.{Optimum}
use Rattle.road_model.specs.declared.answer.PageSpan.{PageSpan}
use Rattle.road_model.specs.declared.answer.Pair.{Pair}
use Rattle.road_model.specs.declared.answer.Plan.{Plan}
use Rattle.road_model.specs.declared.answer.Plan.TheVariants.{NoPath, Found}
use Rattle.road_model.specs.declared.answer.Route.{Route}
use Rattle.road_model.specs.declared.answer.Verdict.{Verdict}
use Rattle.road_model.specs.declared.answer.Verdict.TheVariants as verdict
use Rattle.road_model.specs.declared.request.Cursor.{Cursor}
use Rattle.road_model.specs.declared.request.ErrorKind.{ErrorKind}
use Rattle.road_model.specs.declared.request.Reply.{Reply}
use Rattle.road_model.specs.declared.request.Reply.TheVariants as reply
use Rattle.road_model.specs.Messages.{error_word, error_number}
use Rattle.route_ranking.specs.Cursors.{cursor_text}

abbrev pub arcs_text : List ℕ → List ℕ
arcs_text arcs = flat_map (λ a. 32 ∷ decimal a) arcs

abbrev pub line_text : List ℕ → List ℕ
line_text line = line ++ 10 ∷ []

-- a word with a number after it
abbrev pub numbered : List ℕ → ℕ → List ℕ
numbered word n = word ++ decimal n

abbrev pub optimum_text : Optimum → List ℕ
optimum_text o = numbered (codes "optimum length ") o.length ++ codes " arcs" ++ arcs_text o.arcs

abbrev pub head_text : Route → List ℕ
head_text r = numbered (codes "route via ") r.via ++ numbered (codes " length ") r.length ++ numbered (codes " shared ") r.shared

abbrev pub tail_text : Route → List ℕ
tail_text r = numbered (codes " plateau ") r.plateau ++ numbered (codes " rank ") r.rank ++ codes " arcs"

abbrev pub route_text : Route → List ℕ
route_text r = head_text r ++ tail_text r ++ arcs_text r.arcs

abbrev pub item_texts : Optimum → List Route → List (List ℕ)
item_texts optimum others = optimum_text optimum ∷ map route_text others

abbrev pub items_text : PageSpan → Option Plan → List ℕ
items_text span None = []
items_text span (Some NoPath) = []
items_text span (Some (Found optimum others)) = flat_map line_text (take span.count (drop span.first (item_texts optimum others)))

abbrev pub more_text : Option Cursor → List ℕ
more_text None = []
more_text (Some cursor) = line_text (codes "more " ++ cursor_text cursor)

abbrev pub ok_text : ℕ → List ℕ
ok_text number = line_text (numbered (codes "ok ") number)

abbrev pub end_text : List ℕ
end_text = line_text (codes "end")

abbrev pub best_text : ℕ → Optimum → List ℕ
best_text number optimum = ok_text number ++ line_text (optimum_text optimum) ++ end_text

abbrev pub page_text : ℕ → PageSpan → Option Cursor → Option Plan → List ℕ
page_text number span more plan = ok_text number ++ items_text span plan ++ more_text more ++ end_text

abbrev pub pair_text : Pair → List ℕ
pair_text p = numbered [] p.first ++ numbered (codes " ") p.last ++ numbered (codes " ") p.distance

abbrev pub verdict_text : Verdict → List ℕ
verdict_text verdict.Unreached = codes "unreached"
verdict_text verdict.Optimum = codes "optimum"
verdict_text (verdict.Long length) = numbered (codes "long ") length
verdict_text (verdict.Shared sum) = numbered (codes "shared ") sum
verdict_text (verdict.Local p) = codes "local " ++ pair_text p
verdict_text (verdict.Stretch p) = codes "stretch " ++ pair_text p
verdict_text (verdict.Listed name) = numbered (codes "listed ") name

abbrev pub why_text : ℕ → ℕ → Verdict → List ℕ
why_text number via v = ok_text number ++ line_text (numbered (codes "verdict ") via ++ codes " " ++ verdict_text v) ++ end_text

abbrev pub spaced_text : Option ℕ → List ℕ
spaced_text None = []
spaced_text (Some number) = numbered (codes " ") number

abbrev pub error_text : ErrorKind → List ℕ
error_text kind = error_word kind ++ spaced_text (error_number kind)

abbrev pub reply_text : Reply → Option Plan → List ℕ
reply_text (reply.Best number optimum) plan = best_text number optimum
reply_text (reply.Page number span more) plan = page_text number span more plan
reply_text (reply.NoPath number) plan = line_text (numbered (codes "none ") number)
reply_text (reply.Why number via v) plan = why_text number via v
reply_text (reply.Version number) plan = line_text (numbered (codes "version ") number)
reply_text (reply.Staged count) plan = line_text (numbered (codes "staged ") count)
reply_text (reply.Published number) plan = line_text (numbered (codes "published ") number)
reply_text (reply.Error kind) plan = line_text (codes "error " ++ error_text kind)

abbrev pub HasSpan : PageSpan → Option Plan → Type 0
HasSpan span None = ⊥
HasSpan span (Some NoPath) = ⊥
HasSpan span (Some (Found optimum others)) = span.first + span.count ≤ 1 + length others

abbrev pub HasItems : Reply → Option Plan → Type 0
HasItems (reply.Best number optimum) plan = Unit {0}
HasItems (reply.Page number span more) plan = HasSpan span plan
HasItems (reply.NoPath number) plan = Unit {0}
HasItems (reply.Why number via v) plan = Unit {0}
HasItems (reply.Version number) plan = Unit {0}
HasItems (reply.Staged count) plan = Unit {0}
HasItems (reply.Published number) plan = Unit {0}
HasItems (reply.Error kind) plan = Unit {0}
