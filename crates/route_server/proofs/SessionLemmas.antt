-- The steps of a session.
use Rattle.std.proofs.Common.{◌≡◌, ◌≢◌, ℕ, ◌+◌, ◌-◌, Bool, true, false, List, [], ◌∷◌, ◌++◌, length, Option, Some, None, Result, Ok, Err, refl, sym, ap, ◌∙◌, subst, arith, inl, inr}
use Rattle.std.specs.Prelude.{not, ◌==◌}
use Rattle.std.proofs.lemmas.List.{take_all}
use Rattle.std.proofs.lemmas.List.Elements.{All-nil}
use Rattle.std.proofs.lemmas.Bool.Decides.{nat_tests}
use Rattle.road_model.specs.declared.answer.Optimum.{Optimum}
use Rattle.road_model.specs.declared.answer.Plan.{Plan}
use Rattle.road_model.specs.declared.answer.Plan.TheVariants.{NoPath, Found}
use Rattle.road_model.specs.declared.answer.Query.{Query}
use Rattle.road_model.specs.declared.answer.Verdict.{Verdict}
use Rattle.road_model.specs.declared.change.Change.{Change}
use Rattle.road_model.specs.declared.change.ChangeFault.{ChangeFault}
use Rattle.road_model.specs.declared.change.ChangeFault.TheVariants as fault
use Rattle.road_model.specs.declared.request.ErrorKind.{ErrorKind}
use Rattle.road_model.specs.declared.request.ErrorKind.TheVariants as error
use Rattle.road_model.specs.declared.request.Reply.{Reply}
use Rattle.road_model.specs.declared.request.Reply.TheVariants as reply
use Rattle.road_model.specs.declared.request.Request.{Request}
use Rattle.road_model.specs.declared.request.Request.TheVariants as the
use Rattle.road_model.specs.Graph.{Graph, arc_count}
use Rattle.road_model.specs.Changes.{after_all, change_fault, fault_of}
use Rattle.road_model.specs.Versions.{version_fault, IsRefusedAs}
use Rattle.road_model.specs.declared.graph_file.TheConstants.{MAX_LENGTH}
use Rattle.road_model.specs.declared.planner.TheConstants.{LAST_VERSION}
use Rattle.desk_core.specs.declared.refusals.Asked.{Asked}
use Rattle.desk_core.specs.declared.refusals.Asked.TheVariants as asked
use Rattle.desk_core.specs.declared.refusals.Limits.{Limits}
use Rattle.desk_core.specs.Refusals.{is_within, outcome, passed}
use Rattle.desk_core.specs.States.{State, at_start, graph_at, limits_in, newest}
use Rattle.desk_core.specs.Replies.{best_reply, why_reply, IsAnswered, IsAnswerTo, IsPageReply, IsStep, may_refuse_memory}
use Rattle.desk_core.specs.Desks.{DeskState, empty_desk, IsDeskStep}
use Rattle.desk_core.specs.KeptAnswers.{with_desk, IsKeptAnswer}
use Rattle.desk_core.proofs.KeptLemmas.{desk_step, step_keeps, staged_keeps, published_keeps}
use Rattle.desk_core.proofs.Passed.{passed_ok}
use Rattle.desk_core.proofs.ShownLemmas.{span_inside}
use Rattle.line_front.specs.Replies.{HasItems}
use Rattle.route_server.specs.Sessions.{SessionState, state_of, versions_of, IsChange, IsChangeMade, IsSoundSession}
use Rattle.route_server.proofs.ChangeLemmas.{SameSize, after_all-size, change_fault-push, change_fault-size}

-- ---- what a page shows

page_items : (number : ℕ) (q : Query) (size offset : ℕ) (plan : Plan) (r : Reply) → IsPageReply number q size offset plan r → HasItems r (Some plan)
page_items number q size offset NoPath r h = subst (λ (x : Reply). HasItems x (Some NoPath)) (sym h) tt
page_items number q size offset (Found optimum others) r h =
    subst (λ (x : Reply). HasItems x (Some (Found optimum others))) (sym h.is) (span_inside (1 + length others) size offset h.span h.page)

-- a reply that shows no page
plain : (r other : Reply) (shown : Option Plan) → r ≡ other → HasItems other shown → HasItems r shown
plain r other shown e h = subst (λ (x : Reply). HasItems x shown) (sym e) h

best_items : (number : ℕ) (o : Option Optimum) (shown : Option Plan) → HasItems (best_reply number o) shown
best_items number None shown = tt
best_items number (Some optimum) shown = tt

why_items : (number via : ℕ) (o : Option Verdict) (shown : Option Plan) → HasItems (why_reply number via o) shown
why_items number via None shown = tt
why_items number via (Some verdict) shown = tt

answer_items : (g : Graph) (state next : State) (a : Asked) (r : Reply) (shown : Option Plan) → IsAnswerTo g state a r shown next → HasItems r shown
answer_items g state next (asked.Best from to) r shown h = plain r _ shown h.0.is (best_items (newest state) h.0.optimum shown)
answer_items g state next (asked.Page version q size offset) r shown h =
    subst (λ (x : Option Plan). HasItems r x) (sym h.0.is_shown) (page_items version q size offset h.0.plan r h.0.is)
answer_items g state next (asked.Why q via) r shown h = plain r _ shown h.0.is (why_items (newest state) via h.0.verdict shown)
answer_items g state next asked.Version r shown h = plain r _ shown h.0 tt
answer_items g state next (asked.Length change) r shown h = plain r _ shown h.0 tt
answer_items g state next asked.Publish r shown h = plain r _ shown h.0 tt
answer_items g state next asked.Quit r shown h = absurd h

answered_items : (g : Graph) (state next : State) (request : Request) (o : Result Asked ErrorKind) (r : Reply) (shown : Option Plan) → IsAnswered g state request o r shown next → HasItems r shown
answered_items g state next request (Err kind) r shown h = plain r _ shown h.0 tt
answered_items g state next request (Ok a) r shown (inl h) = answer_items g state next a r shown h
answered_items g state next request (Ok a) r shown (inr h) = plain r _ shown h.0.is tt

pub step_items : (g : Graph) (state next : State) (request : Request) (r : Reply) (shown : Option Plan) → IsStep g state request r shown next → HasItems r shown
step_items g state next request r shown h = answered_items g state next request (outcome (limits_in g state request) request) r shown h

-- ---- the tests of a change

pub change_limits : (s : SessionState) (v : Graph) (vertices arcs number : ℕ) (request : Request) → v ≡ after_all s.base s.batches → vertices ≡ v.vertices → arcs ≡ arc_count v → number ≡ length s.batches + 1 → IsChange request → ◌≡◌ {A = Limits} (record { vertices = vertices; arcs = arcs; number = number; kept = false }) (limits_in s.base (state_of s) request)
change_limits s v vertices arcs number (the.Best from to) e f h n d = absurd d
change_limits s v vertices arcs number (the.Route q size since) e f h n d = absurd d
change_limits s v vertices arcs number (the.Next c) e f h n d = absurd d
change_limits s v vertices arcs number the.BadCursor e f h n d = absurd d
change_limits s v vertices arcs number (the.Why q via since) e f h n d = absurd d
change_limits s v vertices arcs number the.Version e f h n d = absurd d
change_limits s v vertices arcs number (the.Length arc length) e f h n d =
    let same = after_all-size s.base s.batches in rw (f, h, n, e, same.vertices, same.arcs) refl
change_limits s v vertices arcs number the.Publish e f h n d =
    let same = after_all-size s.base s.batches in rw (f, h, n, e, same.vertices, same.arcs) refl
change_limits s v vertices arcs number the.Quit e f h n d = absurd d

two_passed : (a b : Bool) (k l : ErrorKind) (x y : Asked) → passed ((not a, k) ∷ (not b, l) ∷ []) x ≡ Ok y → (a ≡ true) × (b ≡ true)
two_passed false b k l x y e = absurd (let f : ◌≡◌ {A = Result Asked ErrorKind} (Err k) (Ok y) = e in cc)
two_passed true false k l x y e = absurd (let f : ◌≡◌ {A = Result Asked ErrorKind} (Err l) (Ok y) = e in cc)
two_passed true true k l x y e = (refl, refl)

one_passed : (a : Bool) (k : ErrorKind) (x y : Asked) → passed ((a, k) ∷ []) x ≡ Ok y → a ≡ false
one_passed true k x y e = absurd (let f : ◌≡◌ {A = Result Asked ErrorKind} (Err k) (Ok y) = e in cc)
one_passed false k x y e = refl

in_range : (g : Graph) (c : Change) → is_within 1 (arc_count g) c.arc ≡ true → is_within 1 MAX_LENGTH c.length ≡ true → fault_of g c ≡ None
in_range g c a l = rw (a, l) refl

-- a change that passes them has no fault
pub sound_change : (g : Graph) (state : State) (l : Limits) (request : Request) (t : Result Asked ErrorKind) (c : Change) → l ≡ limits_in g state request → t ≡ outcome l request → t ≡ Ok (asked.Length c) → IsChange request → fault_of g c ≡ None
sound_change g state l (the.Length arc length) t c e is ok h =
    let done : outcome (limits_in g state (the.Length arc length)) (the.Length arc length) ≡ Ok (asked.Length c) =
    ap (λ (x : Limits). outcome x (the.Length arc length)) (sym e) ∙ sym is ∙ ok in
    let asks : Asked = asked.Length (record { arc = arc; length = length }) in
    let same : ◌≡◌ {A = Asked} (asked.Length (record { arc = arc; length = length })) (asked.Length c) =
    passed_ok ((not (is_within 1 (arc_count g) arc), error.ArcRange) ∷ (not (is_within 1 MAX_LENGTH length), error.LengthRange) ∷ []) asks (asked.Length c) done in
    let range = two_passed (is_within 1 (arc_count g) arc) (is_within 1 MAX_LENGTH length) error.ArcRange error.LengthRange asks (asked.Length c) done in
    let is_change : ◌≡◌ {A = Change} (record { arc = arc; length = length }) c = cc in
    subst (λ (x : Change). fault_of g x ≡ None) is_change (in_range g (record { arc = arc; length = length }) range.0 range.1)
sound_change g state l the.Publish t c e is ok h =
    absurd (let same = passed_ok ((l.number == LAST_VERSION, error.Full) ∷ []) asked.Publish (asked.Length c) (sym is ∙ ok) in cc)
sound_change g state l (the.Best from to) t c e is ok h = absurd h
sound_change g state l (the.Route q size since) t c e is ok h = absurd h
sound_change g state l (the.Next c') t c e is ok h = absurd h
sound_change g state l the.BadCursor t c e is ok h = absurd h
sound_change g state l (the.Why q via since) t c e is ok h = absurd h
sound_change g state l the.Version t c e is ok h = absurd h
sound_change g state l the.Quit t c e is ok h = absurd h

-- ---- the step of a change

may : (l : Limits) (request : Request) → IsChange request → may_refuse_memory l request ≡ true
may l (the.Length arc length) h = refl
may l the.Publish h = refl
may l (the.Best from to) h = absurd h
may l (the.Route q size since) h = absurd h
may l (the.Next c) h = absurd h
may l the.BadCursor h = absurd h
may l (the.Why q via since) h = absurd h
may l the.Version h = absurd h
may l the.Quit h = absurd h

tested_here : (g : Graph) (state : State) (l : Limits) (request : Request) (t o : Result Asked ErrorKind) → l ≡ limits_in g state request → t ≡ outcome l request → t ≡ o → outcome (limits_in g state request) request ≡ o
tested_here g state l request t o e is done = ap (λ (x : Limits). outcome x request) (sym e) ∙ sym is ∙ done

pub change_step : (g : Graph) (state next : State) (l : Limits) (request : Request) (t : Result Asked ErrorKind) (a : Asked) (r : Reply) (shown : Option Plan) → l ≡ limits_in g state request → t ≡ outcome l request → t ≡ Ok a → IsChange request → IsChangeMade g state a r shown next → IsStep g state request r shown next
change_step g state next l request t a r shown e is ok h (inl made) =
    subst (λ (o : Result Asked ErrorKind). IsAnswered g state request o r shown next) (sym (tested_here g state l request t (Ok a) e is ok)) (inl made)
change_step g state next l request t a r shown e is ok h (inr refused) =
    subst (λ (o : Result Asked ErrorKind). IsAnswered g state request o r shown next) (sym (tested_here g state l request t (Ok a) e is ok))
    (inr (record { may = may (limits_in g state request) request h; is = refused.0 }, refused.1))

pub refused_step : (g : Graph) (state : State) (l : Limits) (request : Request) (t : Result Asked ErrorKind) (kind : ErrorKind) (r : Reply) (shown : Option Plan) → l ≡ limits_in g state request → t ≡ outcome l request → t ≡ Err kind → r ≡ reply.Error kind → IsStep g state request r shown state
refused_step g state l request t kind r shown e is err said =
    subst (λ (o : Result Asked ErrorKind). IsAnswered g state request o r shown state) (sym (tested_here g state l request t (Err kind) e is err)) (said, refl)

-- ---- versions

-- the one change that is no length
pub publishes : (g : Graph) (state : State) (l : Limits) (request : Request) (t : Result Asked ErrorKind) (a : Asked) → l ≡ limits_in g state request → t ≡ outcome l request → t ≡ Ok a → ((c : Change) → a ≡ asked.Length c → ⊥) → IsChange request → (a ≡ asked.Publish) × (newest state ≢ LAST_VERSION)
publishes g state l (the.Length arc length) t a e is ok n h =
    absurd (n _ (sym (passed_ok ((not (is_within 1 l.arcs arc), error.ArcRange) ∷ (not (is_within 1 MAX_LENGTH length), error.LengthRange) ∷ []) (asked.Length (record { arc = arc; length = length })) a (sym is ∙ ok))))
publishes g state l the.Publish t a e is ok n h =
    let done : outcome (limits_in g state the.Publish) the.Publish ≡ Ok a = tested_here g state l the.Publish t (Ok a) e is ok in
    let more = one_passed (newest state == LAST_VERSION) error.Full asked.Publish a done in
    (sym (passed_ok ((newest state == LAST_VERSION, error.Full) ∷ []) asked.Publish a done), λ (last : newest state ≡ LAST_VERSION). grind (arith, nat_tests))
publishes g state l (the.Best from to) t a e is ok n h = absurd h
publishes g state l (the.Route q size since) t a e is ok n h = absurd h
publishes g state l (the.Next c) t a e is ok n h = absurd h
publishes g state l the.BadCursor t a e is ok n h = absurd h
publishes g state l (the.Why q via since) t a e is ok n h = absurd h
publishes g state l the.Version t a e is ok n h = absurd h
publishes g state l the.Quit t a e is ok n h = absurd h

no_fault : (g v : Graph) (n : ℕ) (staged : List Change) → SameSize g v → change_fault g staged ≡ None → n ≢ LAST_VERSION → version_fault v n staged ≡ None
no_fault g v n staged same sound more =
    rw (change_fault-size g v staged same, sound) (let less : (n == LAST_VERSION) ≡ false = grind (arith, nat_tests) in rw less refl)

-- staged changes without a fault make a version, unless memory is refused
pub only_memory : (s : SessionState) (v : Graph) (n : ℕ) (staged : List Change) (given : ChangeFault) → IsSoundSession s → v ≡ after_all s.base s.batches → n ≡ length s.batches + 1 → staged ≡ s.staged → newest (state_of s) ≢ LAST_VERSION → IsRefusedAs (version_fault v n staged) given → given ≡ fault.NoMemory
only_memory s v n staged given sound g e h more (inl memory) = memory
only_memory s v n staged given sound g e h more (inr other) =
    let none : version_fault (after_all s.base s.batches) (length s.batches + 1) s.staged ≡ None =
    no_fault s.base (after_all s.base s.batches) (length s.batches + 1) s.staged (after_all-size s.base s.batches) sound.faultless more in
    let same : version_fault v n staged ≡ None = rw (g, e, h) none in
    absurd (let wrong : ◌≡◌ {A = Option ChangeFault} None (Some given) = sym same ∙ other in cc)

-- ---- the newest version

pub newest_graph : (g : Graph) (state : State) → graph_at g state (newest state) ≡ after_all g state.batches
newest_graph g state =
    ap (after_all g) (take_all (newest state - 1) state.batches (let e : newest state - 1 ≡ length state.batches = omega arith in omega arith))

-- ---- what a session holds

pub sound_start : (g : Graph) (batches : List (List Change)) (staged : List Change) (desk : DeskState) → batches ≡ [] → staged ≡ [] → desk ≡ empty_desk 8 → IsSoundSession (record { base = g; batches = batches; staged = staged; desk = desk })
sound_start g batches staged desk b s e =
    rw (b, s, e) (record { answers = All-nil (IsKeptAnswer g (at_start 0)); faultless = refl })

pub sound_staged : (s : SessionState) (c : Change) (staged : List Change) → IsSoundSession s → fault_of s.base c ≡ None → staged ≡ s.staged ++ c ∷ [] → IsSoundSession (record { base = s.base; batches = s.batches; staged = staged; desk = s.desk })
sound_staged s c staged sound f e =
    rw e (record { answers = staged_keeps s.base (versions_of s) c s.desk sound.answers; faultless = change_fault-push s.base s.staged c sound.faultless f })

pub sound_published : (s : SessionState) (base : Graph) (batches : List (List Change)) (staged : List Change) → IsSoundSession s → base ≡ s.base → batches ≡ s.batches ++ s.staged ∷ [] → staged ≡ [] → IsSoundSession (record { base = base; batches = batches; staged = staged; desk = s.desk })
sound_published s base batches staged sound b h e =
    rw (b, h, e) (record { answers = published_keeps s.base (versions_of s) s.desk sound.answers; faultless = refl })

-- ---- the step of the desk

here : (s : SessionState) (v : Graph) (number : ℕ) (next : DeskState) (request : Request) (r : Reply) (shown : Option Plan) → v ≡ after_all s.base s.batches → number ≡ length s.batches + 1 → IsDeskStep number v s.desk request r shown next → IsDeskStep (newest (versions_of s)) (graph_at s.base (versions_of s) (newest (versions_of s))) s.desk request r shown next
here s v number next request r shown g n step =
    subst (λ (h : Graph). IsDeskStep (newest (versions_of s)) h s.desk request r shown next) (g ∙ sym (newest_graph s.base (versions_of s)))
    (subst (λ (k : ℕ). IsDeskStep k v s.desk request r shown next) n step)

pub desk_steps : (s : SessionState) (v : Graph) (number : ℕ) (next : DeskState) (request : Request) (r : Reply) (shown : Option Plan) → IsSoundSession s → v ≡ after_all s.base s.batches → number ≡ length s.batches + 1 → IsDeskStep number v s.desk request r shown next → IsStep s.base (state_of s) request r shown (with_desk (versions_of s) next)
desk_steps s v number next request r shown sound g n step =
    desk_step s.base (versions_of s) s.desk next request r shown sound.answers (here s v number next request r shown g n step)

pub sound_answered : (s : SessionState) (v : Graph) (number : ℕ) (next : DeskState) (request : Request) (r : Reply) (shown : Option Plan) → IsSoundSession s → v ≡ after_all s.base s.batches → number ≡ length s.batches + 1 → IsDeskStep number v s.desk request r shown next → IsSoundSession (record { base = s.base; batches = s.batches; staged = s.staged; desk = next })
sound_answered s v number next request r shown sound g n step =
    record { answers = step_keeps s.base (versions_of s) s.desk next request r shown sound.answers (here s v number next request r shown g n step); faultless = sound.faultless }
