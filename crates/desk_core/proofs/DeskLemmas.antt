-- What a desk asks and replies.
use Rattle.std.proofs.Common.{◌≡◌, ℕ, ◌≤◌, Bool, true, false, [], ◌∷◌, Option, None, Result, Ok, Err, refl, sym, ap, ◌∙◌, subst, arith, inr}
use Rattle.std.specs.Prelude.{not, ◌&&◌, ◌==◌, is_some, IsTrue, IfOk}
use Rattle.std.proofs.lemmas.Bool.Decides.{nat_tests}
use Rattle.road_model.specs.declared.answer.Plan.{Plan}
use Rattle.road_model.specs.declared.request.Cursor.{Cursor}
use Rattle.road_model.specs.declared.request.CursorQuery.{CursorQuery}
use Rattle.road_model.specs.declared.request.ErrorKind.{ErrorKind}
use Rattle.road_model.specs.declared.request.ErrorKind.TheVariants as error
use Rattle.road_model.specs.declared.request.Reply.{Reply}
use Rattle.road_model.specs.declared.request.Reply.TheVariants as reply
use Rattle.road_model.specs.declared.request.Request.{Request}
use Rattle.road_model.specs.declared.request.Request.TheVariants as the
use Rattle.road_model.specs.Graph.{Graph}
use Rattle.road_model.specs.Queries.{query_of}
use Rattle.desk_core.specs.declared.refusals.Limits.{Limits}
use Rattle.desk_core.specs.declared.refusals.Asked.{Asked}
use Rattle.desk_core.specs.declared.refusals.Asked.TheVariants as asked
use Rattle.desk_core.specs.Refusals.{passed, outcome, is_newer, is_within, are_vertices, are_ratios, best_tests, route_tests, next_tests, why_tests, IsInRange}
use Rattle.desk_core.specs.Replies.{may_refuse_memory}
use Rattle.desk_core.specs.Desks.{DeskState, desk_limits, key_of, plan_at, IsDeskAnswered, IsDeskQuestion, IsDeskRequest, IsDeskStep, NeedsMemory}
use Rattle.desk_core.proofs.Passed.{passed_ok}

-- ---- the tests that were passed

passed_third : (a b c d : Bool) (k l m n : ErrorKind) (x y : Asked) → passed ((a, k) ∷ (b, l) ∷ (c, m) ∷ (d, n) ∷ []) x ≡ Ok y → (c ≡ false) × (d ≡ false)
passed_third true b c d k l m n x y e = absurd (let f : ◌≡◌ {A = Result Asked ErrorKind} (Err k) (Ok y) = e in cc)
passed_third false true c d k l m n x y e = absurd (let f : ◌≡◌ {A = Result Asked ErrorKind} (Err l) (Ok y) = e in cc)
passed_third false false true d k l m n x y e = absurd (let f : ◌≡◌ {A = Result Asked ErrorKind} (Err m) (Ok y) = e in cc)
passed_third false false false true k l m n x y e = absurd (let f : ◌≡◌ {A = Result Asked ErrorKind} (Err n) (Ok y) = e in cc)
passed_third false false false false k l m n x y e = (refl, refl)

small_size : (size : ℕ) → not (is_within 1 64 size) ≡ false → size ≤ 64
small_size size e = grind (arith, nat_tests)

route_size : (l : Limits) (q : CursorQuery) (size : ℕ) (since : Option ℕ) (a : Asked) → outcome l (the.Route q size since) ≡ Ok a → size ≤ 64
route_size l q size since a e =
    small_size size
    (passed_third (not (are_vertices l (q.from ∷ q.to ∷ []))) (not (are_ratios q)) (not (is_within 1 64 size)) (is_newer since l.number) error.Vertex error.Ratio error.Size (error.Behind l.number) (asked.Page l.number (query_of q) size 0) a e).0

pub next_tested : (l : Limits) (c : Cursor) (a : Asked) → outcome l (the.Next c) ≡ Ok a → (not (is_within 1 64 c.size) ≡ false) × ((not (c.version == l.number) && not l.kept) ≡ false)
next_tested l c a e =
    passed_third (not (are_vertices l (c.query.from ∷ c.query.to ∷ []))) (not (are_ratios c.query)) (not (is_within 1 64 c.size)) (not (c.version == l.number) && not l.kept) error.Vertex error.Ratio error.Size (error.Gone l.number) (asked.Page c.version (query_of c.query) c.size c.offset) a e

-- a request was tested against what the desk says
pub outcome_is : (l d : Limits) (r : Request) (t o : Result Asked ErrorKind) → l ≡ d → t ≡ outcome l r → t ≡ o → outcome d r ≡ o
outcome_is l d r t o e is ok = ap (λ (x : Limits). outcome x r) (sym e) ∙ sym is ∙ ok

pub range_is : (l d : Limits) (t : Result Asked ErrorKind) (a : Asked) → l ≡ d → IfOk t (IsInRange l) → t ≡ Ok a → IsInRange d a
range_is l d t a e ranges ok =
    let h : IsInRange l a = subst (λ (x : Result Asked ErrorKind). IfOk x (IsInRange l)) ok ranges in
    subst (λ (x : Limits). IsInRange x a) e h

-- a request that a desk answers asks what a desk answers
pub question_of : (number : ℕ) (g : Graph) (desk : DeskState) (r : Request) (a : Asked) → outcome (desk_limits number g desk r) r ≡ Ok a → IsInRange (desk_limits number g desk r) a → IsDeskRequest r → IsDeskQuestion g a
question_of number g desk (the.Best from to) a e h d =
    let l = desk_limits number g desk (the.Best from to) in
    let is : asked.Best from to ≡ a = passed_ok (best_tests l from to) (asked.Best from to) a e in
    let ends : IsInRange l (asked.Best from to) = subst (IsInRange l) (sym is) h in
    subst (IsDeskQuestion g) is (ends.source, ends.target)
question_of number g desk (the.Route q size since) a e h d =
    let l = desk_limits number g desk (the.Route q size since) in
    let is : asked.Page number (query_of q) size 0 ≡ a = passed_ok (route_tests l q size since) (asked.Page number (query_of q) size 0) a e in
    let ends : IsInRange l (asked.Page number (query_of q) size 0) = subst (IsInRange l) (sym is) h in
    subst (IsDeskQuestion g) is (ends.source, ends.target, route_size l q size since a e)
question_of number g desk (the.Next c) a e h d =
    let l = desk_limits number g desk (the.Next c) in
    let is : asked.Page c.version (query_of c.query) c.size c.offset ≡ a = passed_ok (next_tests l c) (asked.Page c.version (query_of c.query) c.size c.offset) a e in
    let ends : IsInRange l (asked.Page c.version (query_of c.query) c.size c.offset) = subst (IsInRange l) (sym is) h in
    subst (IsDeskQuestion g) is (ends.source, ends.target, small_size c.size (next_tested l c a e).0)
question_of number g desk the.BadCursor a e h d = absurd (let f : ◌≡◌ {A = Result Asked ErrorKind} (Err error.Cursor) (Ok a) = e in cc)
question_of number g desk (the.Why q via since) a e h d =
    let l = desk_limits number g desk (the.Why q via since) in
    let is : asked.Why (query_of q) via ≡ a = passed_ok (why_tests l q via since) (asked.Why (query_of q) via) a e in
    let ends : IsInRange l (asked.Why (query_of q) via) = subst (IsInRange l) (sym is) h in
    subst (IsDeskQuestion g) is (ends.0.source, ends.0.target, ends.1)
question_of number g desk the.Version a e h d =
    let f : ◌≡◌ {A = Result Asked ErrorKind} (Ok asked.Version) (Ok a) = e in
    subst (IsDeskQuestion g) (let is : asked.Version ≡ a = cc in is) tt
question_of number g desk (the.Length arc length) a e h d = absurd d
question_of number g desk the.Publish a e h d = absurd d
question_of number g desk the.Quit a e h d = absurd d

-- ---- memory

not_kept : (o : Option Plan) → o ≡ None → IsTrue (not (is_some o))
not_kept o e = subst (λ (p : Option Plan). IsTrue (not (is_some p))) (sym e) refl

kept_not : (o : Option Plan) → not (is_some o) ≡ false → o ≡ None → ⊥
kept_not o e n = let f : not (is_some o) ≡ true = not_kept o n in let g : true ≡ false = sym f ∙ e in cc

-- what needs memory may be refused it
pub may_refuse : (number : ℕ) (g : Graph) (desk : DeskState) (r : Request) (a : Asked) → outcome (desk_limits number g desk r) r ≡ Ok a → NeedsMemory desk a → IsTrue (may_refuse_memory (desk_limits number g desk r) r)
may_refuse number g desk (the.Best from to) a e n = refl
may_refuse number g desk (the.Route q size since) a e n =
    let is = passed_ok (route_tests (desk_limits number g desk (the.Route q size since)) q size since) (asked.Page number (query_of q) size 0) a e in
    not_kept (plan_at desk (key_of number (query_of q))) (subst (NeedsMemory desk) (sym is) n)
may_refuse number g desk (the.Next c) a e n =
    let is = passed_ok (next_tests (desk_limits number g desk (the.Next c)) c) (asked.Page c.version (query_of c.query) c.size c.offset) a e in
    not_kept (plan_at desk (key_of c.version (query_of c.query))) (subst (NeedsMemory desk) (sym is) n)
may_refuse number g desk the.BadCursor a e n = refl
may_refuse number g desk (the.Why q via since) a e n = refl
may_refuse number g desk the.Version a e n =
    let f : ◌≡◌ {A = Result Asked ErrorKind} (Ok asked.Version) (Ok a) = e in
    absurd (subst (NeedsMemory desk) (let is : a ≡ asked.Version = cc in is) n)
may_refuse number g desk (the.Length arc length) a e n = refl
may_refuse number g desk the.Publish a e n = refl
may_refuse number g desk the.Quit a e n = refl

-- what may not be refused memory needs none
pub needs_none : (number : ℕ) (g : Graph) (desk : DeskState) (r : Request) (a : Asked) → outcome (desk_limits number g desk r) r ≡ Ok a → may_refuse_memory (desk_limits number g desk r) r ≡ false → NeedsMemory desk a → ⊥
needs_none number g desk r a e m n =
    let may : may_refuse_memory (desk_limits number g desk r) r ≡ true = may_refuse number g desk r a e n in
    let wrong : true ≡ false = sym may ∙ m in
    cc

-- ---- steps

abbrev StepBy : ℕ → Graph → DeskState → Request → Reply → Option Plan → DeskState → Result Asked ErrorKind → Type 0
StepBy number g desk r answer shown next o = IsDeskAnswered number g desk r o answer shown next

-- that memory was refused
pub starved_step : (number : ℕ) (g : Graph) (desk next : DeskState) (r : Request) (a : Asked) (answer : Reply) (shown : Option Plan) → outcome (desk_limits number g desk r) r ≡ Ok a → NeedsMemory desk a → answer ≡ reply.Error error.Memory → next ≡ desk → IsDeskStep number g desk r answer shown next
starved_step number g desk next r a answer shown e needs said stays =
    subst (StepBy number g desk r answer shown next) (sym e)
    (inr (record { may = may_refuse number g desk r a e needs; is = said }, stays))
