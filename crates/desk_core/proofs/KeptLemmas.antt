-- The steps of a desk in a run of requests.
use Rattle.std.proofs.Common.{◌≡◌, ℕ, ◌+◌, ◌-◌, ◌≤◌, Bool, true, false, cond, List, [], ◌∷◌, ◌++◌, length, take, Option, Some, None, Result, Ok, Err, refl, sym, ap, ◌∙◌, subst, arith, inl, inr}
use Rattle.std.specs.Prelude.{map, filter, not, ◌&&◌, ◌||◌, ◌==◌, is_some, option_map, All}
use Rattle.std.specs.List.{find, list_any}
use Rattle.std.specs.Cmp.{unsigned_Decides}
use Rattle.std.proofs.lemmas.List.{take-map, take-append-le, length-append, length-set}
use Rattle.std.proofs.lemmas.List.Elements.{All-cons, All-filter, All-head, All-tail, All-take, All-weaker}
use Rattle.road_model.specs.declared.answer.Plan.{Plan}
use Rattle.road_model.specs.declared.answer.Query.{Query}
use Rattle.road_model.specs.declared.change.Change.{Change}
use Rattle.road_model.specs.declared.rows.ArcRow.{ArcRow}
use Rattle.road_model.specs.declared.request.ErrorKind.{ErrorKind}
use Rattle.road_model.specs.declared.request.ErrorKind.TheVariants as error
use Rattle.road_model.specs.declared.request.Reply.{Reply}
use Rattle.road_model.specs.declared.request.Request.{Request}
use Rattle.road_model.specs.declared.request.Request.TheVariants as the
use Rattle.road_model.specs.Graph.{Graph, arc_at, arc_count}
use Rattle.road_model.specs.Changes.{with_row, changed, after, after_all}
use Rattle.road_model.specs.Answers.{IsAnswer}
use Rattle.road_model.specs.Queries.{query_of}
use Rattle.road_model.specs.declared.graph_file.TheConstants.{MAX_LENGTH}
use Rattle.road_model.specs.declared.planner.TheConstants.{LAST_VERSION}
use Rattle.desk_core.specs.declared.refusals.Limits.{Limits}
use Rattle.desk_core.specs.declared.refusals.Asked.{Asked}
use Rattle.desk_core.specs.declared.refusals.Asked.TheVariants as asked
use Rattle.desk_core.specs.Refusals.{is_within, outcome, best_tests, route_tests, next_tests, why_tests}
use Rattle.desk_core.specs.States.{Key, State, newest, graph_at, is_kept, key_in, limits_in, published, same_key, staging, used}
use Rattle.desk_core.specs.KeyLaws.{same_key_decides}
use Rattle.desk_core.specs.Replies.{IsAnswered, IsMemoryRefused, IsStep}
use Rattle.desk_core.specs.Desks.{Kept, DeskState, keys_of, plan_at, keeps, put_first, key_of, desk_limits, IsPlanAt, IsDeskPage, IsDeskAnswer, IsDeskAnswered, IsDeskStep}
use Rattle.desk_core.specs.KeptAnswers.{with_desk, IsKeptAnswer, AreAnswers}
use Rattle.desk_core.proofs.Passed.{passed_ok}
use Rattle.desk_core.proofs.DeskLemmas.{next_tested}

-- ---- a change keeps the numbers of vertices and arcs

record IsAlike (g h : Graph) : Type 0 where
  vertices : g.vertices ≡ h.vertices
  arcs : arc_count g ≡ arc_count h

row_alike : (g : Graph) (a long : ℕ) (o : Option ArcRow) → IsAlike (with_row g a long o) g
row_alike g a long None = record { vertices = refl; arcs = refl }
row_alike g a long (Some r) = record { vertices = refl; arcs = length-set g.arcs (a - 1) (record r { length = long }) }

batch_alike : (g : Graph) (batch : List Change) → IsAlike (after g batch) g
batch_alike g [] = record { vertices = refl; arcs = refl }
batch_alike g (c ∷ batch) =
    let first = row_alike g c.arc c.length (arc_at g c.arc) in
    let rest = batch_alike (changed g c) batch in
    record { vertices = rest.vertices ∙ first.vertices; arcs = rest.arcs ∙ first.arcs }

all_alike : (g : Graph) (batches : List (List Change)) → IsAlike (after_all g batches) g
all_alike g [] = record { vertices = refl; arcs = refl }
all_alike g (batch ∷ batches) =
    let first = batch_alike g batch in
    let rest = all_alike (after g batch) batches in
    record { vertices = rest.vertices ∙ first.vertices; arcs = rest.arcs ∙ first.arcs }

-- ---- what is kept

some_at : (key : Key) (ks : List Kept) → list_any (λ (k : Key). same_key key k) (map (λ (k : Kept). k.key) ks) ≡ is_some (option_map (λ (k : Kept). k.plan) (find (λ (k : Kept). same_key key k.key) ks))
some_at key [] = refl
some_at key (k ∷ ks) =
    elim (same_key key k.key) as (λ b. b || list_any (λ (j : Key). same_key key j) (map (λ (j : Kept). j.key) ks) ≡ is_some (option_map (λ (j : Kept). j.plan) (cond b (Some k) (find (λ (j : Kept). same_key key j.key) ks))))
    [ true ↦ refl | false ↦ some_at key ks ]

kept_alike : (state : State) (desk : DeskState) (key : Option Key) → is_kept (with_desk state desk) key ≡ keeps desk key
kept_alike state desk None = refl
kept_alike state desk (Some key) = some_at key desk.kept

abbrev limits_of : ℕ → ℕ → ℕ → Bool → Limits
limits_of vertices arcs number kept = record { vertices = vertices; arcs = arcs; number = number; kept = kept }

same_limits : (v w a b n : ℕ) (k j : Bool) → v ≡ w → a ≡ b → k ≡ j → limits_of v a n k ≡ limits_of w b n j
same_limits v w a b n k j p q r = cc

limits_alike : (g : Graph) (state : State) (desk : DeskState) (r : Request) → desk_limits (newest state) (graph_at g state (newest state)) desk r ≡ limits_in g (with_desk state desk) r
limits_alike g state desk r =
    let alike = all_alike g (take (newest state - 1) state.batches) in
    same_limits _ _ _ _ (newest state) _ _ alike.vertices alike.arcs (sym (kept_alike state desk (key_in (newest state) r)))

-- ---- a page is of the pinned version, or of a kept plan

same_version : (v w s t o p : ℕ) (q r : Query) → asked.Page v q s o ≡ asked.Page w r t p → v ≡ w
same_version v w s t o p q r e = cc

same_query_of : (v w s t o p : ℕ) (q r : Query) → asked.Page v q s o ≡ asked.Page w r t p → q ≡ r
same_query_of v w s t o p q r e = cc

unkept_is_pinned : (a b : Bool) → (not a && not b) ≡ false → b ≡ false → a ≡ true
unkept_is_pinned true b e h = refl
unkept_is_pinned false true e h = absurd (let f : true ≡ false = h in cc)
unkept_is_pinned false false e h = absurd (let f : true ≡ false = e in cc)

none_is : (o : Option Plan) → o ≡ None → is_some o ≡ false
none_is o e = ap is_some e

pub page_is_pinned : (number : ℕ) (g : Graph) (desk : DeskState) (r : Request) (version size offset : ℕ) (q : Query) → outcome (desk_limits number g desk r) r ≡ Ok (asked.Page version q size offset) → plan_at desk (key_of version q) ≡ None → version ≡ number
page_is_pinned number g desk (the.Best from to) version size offset q e n =
    let is : asked.Best from to ≡ asked.Page version q size offset = passed_ok (best_tests (desk_limits number g desk (the.Best from to)) from to) (asked.Best from to) (asked.Page version q size offset) e in cc
page_is_pinned number g desk (the.Route p long since) version size offset q e n =
    let is : asked.Page number (query_of p) long 0 ≡ asked.Page version q size offset = passed_ok (route_tests (desk_limits number g desk (the.Route p long since)) p long since) (asked.Page number (query_of p) long 0) (asked.Page version q size offset) e in
    sym (same_version number version long size 0 offset (query_of p) q is)
page_is_pinned number g desk (the.Next c) version size offset q e n =
    let l = desk_limits number g desk (the.Next c) in
    let is : asked.Page c.version (query_of c.query) c.size c.offset ≡ asked.Page version q size offset = passed_ok (next_tests l c) (asked.Page c.version (query_of c.query) c.size c.offset) (asked.Page version q size offset) e in
    let v : c.version ≡ version = same_version c.version version c.size size c.offset offset (query_of c.query) q is in
    let same : query_of c.query ≡ q = same_query_of c.version version c.size size c.offset offset (query_of c.query) q is in
    let none : plan_at desk (key_of c.version (query_of c.query)) ≡ None =
    subst (λ (w : ℕ). plan_at desk (key_of w (query_of c.query)) ≡ None) (sym v) (subst (λ (x : Query). plan_at desk (key_of version x) ≡ None) (sym same) n) in
    sym v ∙ (unsigned_Decides c.version number).0 (unkept_is_pinned (c.version == number) l.kept (next_tested l c (asked.Page version q size offset) e).1 (none_is _ none))
page_is_pinned number g desk the.BadCursor version size offset q e n =
    let f : ◌≡◌ {A = Result Asked ErrorKind} (Err error.Cursor) (Ok (asked.Page version q size offset)) = e in cc
page_is_pinned number g desk (the.Why p via since) version size offset q e n =
    let is : asked.Why (query_of p) via ≡ asked.Page version q size offset = passed_ok (why_tests (desk_limits number g desk (the.Why p via since)) p via since) (asked.Why (query_of p) via) (asked.Page version q size offset) e in cc
page_is_pinned number g desk the.Version version size offset q e n =
    let f : ◌≡◌ {A = Result Asked ErrorKind} (Ok asked.Version) (Ok (asked.Page version q size offset)) = e in cc
page_is_pinned number g desk (the.Length arc long) version size offset q e n =
    let is : asked.Length (record { arc = arc; length = long }) ≡ asked.Page version q size offset = passed_ok ((not (is_within 1 (arc_count g) arc), error.ArcRange) ∷ (not (is_within 1 MAX_LENGTH long), error.LengthRange) ∷ []) (asked.Length (record { arc = arc; length = long })) (asked.Page version q size offset) e in cc
page_is_pinned number g desk the.Publish version size offset q e n =
    let is : asked.Publish ≡ asked.Page version q size offset = passed_ok ((number == LAST_VERSION, error.Full) ∷ []) asked.Publish (asked.Page version q size offset) e in cc
page_is_pinned number g desk the.Quit version size offset q e n =
    let f : ◌≡◌ {A = Result Asked ErrorKind} (Ok asked.Quit) (Ok (asked.Page version q size offset)) = e in cc

-- ---- the plan of a page

record Found (P : Kept → Type 0) (key : Key) (plan : Plan) : Type 0 where
  kept : Kept
  holds : P kept
  is_key : key ≡ kept.key
  is_plan : kept.plan ≡ plan

found_one : (P : Kept → Type 0) (key : Key) (plan : Plan) (ks : List Kept) → All P ks → option_map (λ (k : Kept). k.plan) (find (λ (k : Kept). same_key key k.key) ks) ≡ Some plan → Found P key plan
found_one P key plan [] all e = absurd (let f : ◌≡◌ {A = Option Plan} None (Some plan) = e in cc)
found_one P key plan (k ∷ ks) all e =
    (elim (same_key key k.key) as (λ b. same_key key k.key ≡ b → option_map (λ (j : Kept). j.plan) (cond b (Some k) (find (λ (j : Kept). same_key key j.key) ks)) ≡ Some plan → Found P key plan) [
      | true ↦ λ t f. record { kept = k; holds = All-head P k ks all; is_key = (same_key_decides key k.key).0 t; is_plan = let h : ◌≡◌ {A = Option Plan} (Some k.plan) (Some plan) = f in cc }
      | false ↦ λ t f. found_one P key plan ks (All-tail P k ks all) f
    ]) refl e

plan_is_kept : (g : Graph) (state : State) (desk : DeskState) (version : ℕ) (q : Query) (o : Option Plan) (plan : Plan) → plan_at desk (key_of version q) ≡ o → (o ≡ None → version ≡ newest state) → AreAnswers g state desk → IsPlanAt (graph_at g state (newest state)) q o plan → IsKeptAnswer g state (record { key = key_of version q; plan = plan })
plan_is_kept g state desk version q None plan e pinned all is =
    let v : version ≡ newest state = pinned refl in
    record { is_published = omega (arith, v); is_answer = subst (λ (n : ℕ). IsAnswer (graph_at g state n) q plan) (sym v) is }
plan_is_kept g state desk version q (Some kept) plan e pinned all is =
    let one = found_one (IsKeptAnswer g state) (key_of version q) kept desk.kept all e in
    let at : IsKeptAnswer g state (record { key = key_of version q; plan = one.kept.plan }) =
    subst (λ (k : Key). IsKeptAnswer g state (record { key = k; plan = one.kept.plan })) (sym one.is_key) one.holds in
    subst (λ (p : Plan). IsKeptAnswer g state (record { key = key_of version q; plan = p })) (one.is_plan ∙ sym is) at

-- ---- the desk after a page

keys_filtered : (p : Key → Bool) (ks : List Kept) → map (λ (k : Kept). k.key) (filter (λ (k : Kept). p k.key) ks) ≡ filter p (map (λ (k : Kept). k.key) ks)
keys_filtered p [] = refl
keys_filtered p (k ∷ ks) =
    elim (p k.key) as (λ b. map (λ (j : Kept). j.key) (cond b (k ∷ filter (λ (j : Kept). p j.key) ks) (filter (λ (j : Kept). p j.key) ks)) ≡ cond b (k.key ∷ filter p (map (λ (j : Kept). j.key) ks)) (filter p (map (λ (j : Kept). j.key) ks)))
    [ true ↦ ap (λ (l : List Key). k.key ∷ l) (keys_filtered p ks) | false ↦ keys_filtered p ks ]

used_is : (state : State) (desk : DeskState) (key : Key) (plan : Plan) → with_desk state (put_first desk key plan) ≡ used (with_desk state desk) key
used_is state desk key plan =
    let others : Key → Bool = λ (k : Key). not (same_key key k) in
    let first : Kept = record { key = key; plan = plan } in
    let keys : map (λ (k : Kept). k.key) (take desk.room (first ∷ filter (λ (k : Kept). others k.key) desk.kept)) ≡ take desk.room (key ∷ filter others (keys_of desk)) =
    sym (take-map (λ (k : Kept). k.key) desk.room (first ∷ filter (λ (k : Kept). others k.key) desk.kept))
    ∙ ap (λ (l : List Key). take desk.room (key ∷ l)) (keys_filtered others desk.kept) in
    ap (λ (l : List Key). let s : State = record state { room = desk.room; keys = l } in s) keys

answers_first : (g : Graph) (state : State) (desk : DeskState) (key : Key) (plan : Plan) → AreAnswers g state desk → IsKeptAnswer g state (record { key = key; plan = plan }) → AreAnswers g state (put_first desk key plan)
answers_first g state desk key plan all one =
    let first : Kept = record { key = key; plan = plan } in
    let P : Kept → Type 0 = IsKeptAnswer g state in
    let others : List Kept = filter (λ (k : Kept). not (same_key key k.key)) desk.kept in
    All-take P desk.room (first ∷ others) (All-cons P first others one (All-filter (λ (k : Kept). not (same_key key k.key)) P desk.kept all))

-- ---- steps

record IsRunStep (g : Graph) (state : State) (desk next : DeskState) (request : Request) (o : Result Asked ErrorKind) (r : Reply) (shown : Option Plan) : Type 0 where
  step : IsAnswered g (with_desk state desk) request o r shown (with_desk state next)
  kept : AreAnswers g state next

abbrev Same : (g : Graph) (state : State) (desk next : DeskState) → next ≡ desk → AreAnswers g state desk → AreAnswers g state next
Same g state desk next e all = subst (AreAnswers g state) (sym e) all

page_step : (g : Graph) (state : State) (desk next : DeskState) (request : Request) (version size offset : ℕ) (q : Query) (r : Reply) (shown : Option Plan) → (plan_at desk (key_of version q) ≡ None → version ≡ newest state) → AreAnswers g state desk → IsDeskPage (graph_at g state (newest state)) desk version q size offset r shown next → IsRunStep g state desk next request (Ok (asked.Page version q size offset)) r shown
page_step g state desk next request version size offset q r shown pinned all page =
    let key : Key = key_of version q in
    let one = plan_is_kept g state desk version q (plan_at desk key) page.plan refl pinned all page.used.is_plan in
    record {
      step = inl (
        record { plan = page.plan; is_answer = one.is_answer; is_shown = page.is_shown; is = page.is },
        ap (with_desk state) page.used.is_next ∙ used_is state desk key page.plan,
      );
      kept = subst (AreAnswers g state) (sym page.used.is_next) (answers_first g state desk key page.plan all one);
    }

abbrev Pinned : State → DeskState → Asked → Type 0
Pinned state desk (asked.Page version q size offset) = plan_at desk (key_of version q) ≡ None → version ≡ newest state
Pinned state desk a = Unit {0}

answer_step : (g : Graph) (state : State) (desk next : DeskState) (request : Request) (a : Asked) (r : Reply) (shown : Option Plan) → Pinned state desk a → AreAnswers g state desk → IsDeskAnswer (newest state) (graph_at g state (newest state)) desk a r shown next → IsRunStep g state desk next request (Ok a) r shown
answer_step g state desk next request (asked.Best from to) r shown pinned all h =
    record { step = inl (h.0, ap (with_desk state) h.1); kept = Same g state desk next h.1 all }
answer_step g state desk next request (asked.Page version q size offset) r shown pinned all h = page_step g state desk next request version size offset q r shown pinned all h
answer_step g state desk next request (asked.Why q via) r shown pinned all h =
    record { step = inl (h.0, ap (with_desk state) h.1); kept = Same g state desk next h.1 all }
answer_step g state desk next request asked.Version r shown pinned all h =
    record { step = inl (h.0, ap (with_desk state) h.1); kept = Same g state desk next h.1 all }
answer_step g state desk next request (asked.Length change) r shown pinned all h = absurd h
answer_step g state desk next request asked.Publish r shown pinned all h = absurd h
answer_step g state desk next request asked.Quit r shown pinned all h = absurd h

pinned_of : (g : Graph) (state : State) (desk : DeskState) (request : Request) (a : Asked) → outcome (desk_limits (newest state) (graph_at g state (newest state)) desk request) request ≡ Ok a → Pinned state desk a
pinned_of g state desk request (asked.Best from to) e = tt
pinned_of g state desk request (asked.Page version q size offset) e = page_is_pinned (newest state) (graph_at g state (newest state)) desk request version size offset q e
pinned_of g state desk request (asked.Why q via) e = tt
pinned_of g state desk request asked.Version e = tt
pinned_of g state desk request (asked.Length change) e = tt
pinned_of g state desk request asked.Publish e = tt
pinned_of g state desk request asked.Quit e = tt

outcome_step : (g : Graph) (state : State) (desk next : DeskState) (request : Request) (o : Result Asked ErrorKind) (r : Reply) (shown : Option Plan) → outcome (desk_limits (newest state) (graph_at g state (newest state)) desk request) request ≡ o → AreAnswers g state desk → IsDeskAnswered (newest state) (graph_at g state (newest state)) desk request o r shown next → IsRunStep g state desk next request o r shown
outcome_step g state desk next request (Err kind) r shown e all h =
    record { step = (h.0, ap (with_desk state) h.1); kept = Same g state desk next h.1 all }
outcome_step g state desk next request (Ok a) r shown e all (inl h) = answer_step g state desk next request a r shown (pinned_of g state desk request a e) all h
outcome_step g state desk next request (Ok a) r shown e all (inr h) = record {
  step = inr (subst (λ (l : Limits). IsMemoryRefused l request r) (limits_alike g state desk request) h.0, ap (with_desk state) h.1);
  kept = Same g state desk next h.1 all;
}

run_step : (g : Graph) (state : State) (desk next : DeskState) (request : Request) (r : Reply) (shown : Option Plan) → AreAnswers g state desk → IsDeskStep (newest state) (graph_at g state (newest state)) desk request r shown next → IsRunStep g state desk next request (outcome (desk_limits (newest state) (graph_at g state (newest state)) desk request) request) r shown
run_step g state desk next request r shown all h = outcome_step g state desk next request (outcome (desk_limits (newest state) (graph_at g state (newest state)) desk request) request) r shown refl all h

pub desk_step : (g : Graph) (state : State) (desk next : DeskState) (request : Request) (r : Reply) (shown : Option Plan) → AreAnswers g state desk → IsDeskStep (newest state) (graph_at g state (newest state)) desk request r shown next → IsStep g (with_desk state desk) request r shown (with_desk state next)
desk_step g state desk next request r shown all h =
    subst (λ (l : Limits). IsAnswered g (with_desk state desk) request (outcome l request) r shown (with_desk state next)) (limits_alike g state desk request) (run_step g state desk next request r shown all h).step

pub step_keeps : (g : Graph) (state : State) (desk next : DeskState) (request : Request) (r : Reply) (shown : Option Plan) → AreAnswers g state desk → IsDeskStep (newest state) (graph_at g state (newest state)) desk request r shown next → AreAnswers g state next
step_keeps g state desk next request r shown all h = (run_step g state desk next request r shown all h).kept

-- ---- later versions

pub staged_keeps : (g : Graph) (state : State) (change : Change) (desk : DeskState) → AreAnswers g state desk → AreAnswers g (staging state change) desk
staged_keeps g state change desk all =
    All-weaker (IsKeptAnswer g state) (IsKeptAnswer g (staging state change)) (λ (k : Kept) (h : IsKeptAnswer g state k). record { is_published = h.is_published; is_answer = h.is_answer }) desk.kept all

one_published : (g : Graph) (state : State) (k : Kept) → IsKeptAnswer g state k → IsKeptAnswer g (published state) k
one_published g state k h =
    let n : ℕ = k.key.version in
    let old : n ≤ newest state = h.is_published in
    let long : length (state.batches ++ state.staged ∷ []) ≡ length state.batches + 1 = length-append state.batches (state.staged ∷ []) in
    let same : take (n - 1) (state.batches ++ state.staged ∷ []) ≡ take (n - 1) state.batches = take-append-le (n - 1) state.batches (state.staged ∷ []) (omega (arith, old)) in
    record {
      is_published = omega (arith, old, long);
      is_answer = subst (λ (bs : List (List Change)). IsAnswer (after_all g bs) (query_of k.key.query) k.plan) (sym same) h.is_answer;
    }

pub published_keeps : (g : Graph) (state : State) (desk : DeskState) → AreAnswers g state desk → AreAnswers g (published state) desk
published_keeps g state desk all = All-weaker (IsKeptAnswer g state) (IsKeptAnswer g (published state)) (one_published g state) desk.kept all
