-- Runs of requests: what is published stays, and the pages of an answer join.
use Rattle.std.proofs.Common.{◌≡◌, ℕ, ◌+◌, ◌-◌, ◌≤◌, ◌⊎◌, Bool, true, false, not, List, [], ◌∷◌, ◌++◌, length, map, take, Option, Some, None, Result, Ok, Err, refl, sym, ap, ◌∙◌, subst, append_assoc, arith, inl, inr, ⊎_elim}
use Rattle.std.specs.Prelude.{MatchOption, MatchBool}
use Rattle.std.specs.List.{AllByRecursion}
use Rattle.std.proofs.lemmas.List.{append-nil, take-append-le, length-append, length-map}
use Rattle.std.proofs.lemmas.Bool.Decides.{nat_tests}
use Rattle.road_model.specs.declared.answer.Optimum.{Optimum}
use Rattle.road_model.specs.declared.answer.PageSpan.{PageSpan}
use Rattle.road_model.specs.declared.answer.Plan.{Plan}
use Rattle.road_model.specs.declared.answer.Plan.TheVariants.{NoPath, Found}
use Rattle.road_model.specs.declared.answer.Query.{Query}
use Rattle.road_model.specs.declared.answer.Route.{Route}
use Rattle.road_model.specs.declared.change.Change.{Change}
use Rattle.road_model.specs.declared.request.Cursor.{Cursor}
use Rattle.road_model.specs.declared.request.CursorQuery.{CursorQuery}
use Rattle.road_model.specs.declared.request.ErrorKind.{ErrorKind}
use Rattle.road_model.specs.declared.request.ErrorKind.TheVariants as error
use Rattle.road_model.specs.declared.request.Reply.{Reply}
use Rattle.road_model.specs.declared.request.Reply.TheVariants as reply
use Rattle.road_model.specs.declared.request.Request.{Request}
use Rattle.road_model.specs.declared.request.Request.TheVariants as the
use Rattle.road_model.specs.Graph.{Graph}
use Rattle.road_model.specs.Changes.{after_all}
use Rattle.road_model.specs.Answers.{IsAnswer, IsPage}
use Rattle.road_model.specs.Queries.{query_of}
use Rattle.road_laws.proofs.Listings.{answer_is_one_lem}
use Rattle.route_ranking.specs.Chains.{IsChain}
use Rattle.route_ranking.proofs.PageLemmas.{joined-from}
use Rattle.desk_core.specs.declared.refusals.Asked.{Asked}
use Rattle.desk_core.specs.declared.refusals.Asked.TheVariants as asked
use Rattle.desk_core.specs.Refusals.{passed, outcome, is_newer, is_within, are_vertices, are_ratios, route_tests, next_tests}
use Rattle.desk_core.specs.States.{State, newest, graph_at, limits_in}
use Rattle.desk_core.specs.Replies.{IsStep, IsAnswered, IsAnswerTo, IsPageReply, more_of, numbers_in}
use Rattle.desk_core.specs.Runs.{Turn, IsRun, Follow, PagesJoin, paths_in, spans_of}

-- what was published stays
record Grows (state next : State) : Type 0 where
  batches : List (List Change)
  is : next.batches ≡ state.batches ++ batches

grows_same : (state next : State) → next ≡ state → Grows state next
grows_same state next e = record { batches = []; is = ap (λ (s : State). s.batches) e ∙ sym (append-nil state.batches) }

grows_kept : (state next other : State) → next ≡ other → other.batches ≡ state.batches → Grows state next
grows_kept state next other e k = record { batches = []; is = ap (λ (s : State). s.batches) e ∙ k ∙ sym (append-nil state.batches) }

answer_grows : (g : Graph) (state next : State) (a : Asked) (r : Reply) (shown : Option Plan) → IsAnswerTo g state a r shown next → Grows state next
answer_grows g state next (asked.Best from to) r shown h = grows_same state next h.1
answer_grows g state next (asked.Page version q size offset) r shown h = grows_kept state next _ h.1 refl
answer_grows g state next (asked.Why q via) r shown h = grows_same state next h.1
answer_grows g state next asked.Version r shown h = grows_same state next h.1
answer_grows g state next (asked.Length change) r shown h = grows_kept state next _ h.1 refl
answer_grows g state next asked.Publish r shown h = record { batches = state.staged ∷ []; is = ap (λ (s : State). s.batches) h.1 }
answer_grows g state next asked.Quit r shown h = absurd h

answered_grows : (g : Graph) (state next : State) (request : Request) (o : Result Asked ErrorKind) (r : Reply) (shown : Option Plan) → IsAnswered g state request o r shown next → Grows state next
answered_grows g state next request (Err kind) r shown h = grows_same state next h.1
answered_grows g state next request (Ok a) r shown (inl h) = answer_grows g state next a r shown h
answered_grows g state next request (Ok a) r shown (inr h) = grows_same state next h.1

step_grows : (g : Graph) (state next : State) (turn : Turn) → IsStep g state turn.request turn.reply turn.shown next → Grows state next
step_grows g state next turn h = answered_grows g state next turn.request (outcome (limits_in g state turn.request) turn.request) turn.reply turn.shown h

grows_both : (a b c : State) → Grows a b → Grows b c → Grows a c
grows_both a b c h k = record {
  batches = h.batches ++ k.batches;
  is = k.is ∙ ap (λ (bs : List (List Change)). bs ++ k.batches) h.is ∙ append_assoc a.batches h.batches k.batches;
}

run_grows : (g : Graph) (state last : State) (turns : List Turn) → IsRun g state turns last → Grows state last
run_grows g state last [] h = grows_same state last h
run_grows g state last (turn ∷ turns) (next, step, run) =
    grows_both state next last (step_grows g state next turn step) (run_grows g next last turns run)

newest_grows : (state next : State) → Grows state next → newest state ≤ newest next
newest_grows state next h =
    let long : length next.batches ≡ length state.batches + length h.batches = ap length h.is ∙ length-append state.batches h.batches in
    omega (arith, long)

graph_keeps : (g : Graph) (state next : State) (n : ℕ) → Grows state next → n ≤ newest state → graph_at g next n ≡ graph_at g state n
graph_keeps g state next n h le =
    ap (λ (bs : List (List Change)). after_all g (take (n - 1) bs)) h.is
    ∙ ap (λ (bs : List (List Change)). after_all g bs) (take-append-le (n - 1) state.batches h.batches (omega (arith, le)))

pub version_keeps : (g : Graph) (state last : State) (turns : List Turn) (n : ℕ) → IsRun g state turns last → n ≤ newest state → graph_at g last n ≡ graph_at g state n
version_keeps g state last turns n run le = graph_keeps g state last n (run_grows g state last turns run) le

-- ---- the reply to a request for a page

-- either refused, or it asks for just this
record Asks (o : Result Asked ErrorKind) (a : Asked) : Type 0 where
  cases : ((kind : ErrorKind) × (o ≡ Err kind)) ⊎ (o ≡ Ok a)

passed_asks : (tests : List (Bool × ErrorKind)) (a : Asked) → Asks (passed tests a) a
passed_asks [] a = record { cases = inr refl }
passed_asks ((true, kind) ∷ tests) a = record { cases = inl (kind, refl) }
passed_asks ((false, kind) ∷ tests) a = passed_asks tests a

record ShowsPage (g : Graph) (q : CursorQuery) (version size offset : ℕ) (page : ℕ × PageSpan) (more : Option Cursor) : Type 0 where
  optimum : Optimum
  others : List Route
  number : page.0 ≡ version
  is_answer : IsAnswer g (query_of q) (Found optimum others)
  is_page : IsPage (1 + length others) size offset page.1
  is_more : more ≡ more_of version (query_of q) size page.1

record SamePage (n m : ℕ) (a b : PageSpan) (c d : Option Cursor) : Type 0 where
  numbers : n ≡ m
  spans : a ≡ b
  cursors : c ≡ d

same_page : (n m : ℕ) (a b : PageSpan) (c d : Option Cursor) → reply.Page n a c ≡ reply.Page m b d → SamePage n m a b c d
same_page n m a b c d e = record { numbers = cc; spans = cc; cursors = cc }

plan_shows : (g : Graph) (q : CursorQuery) (version size offset : ℕ) (page : ℕ × PageSpan) (more : Option Cursor) (r : Reply) (plan : Plan) → IsAnswer g (query_of q) plan → IsPageReply version (query_of q) size offset plan r → r ≡ reply.Page page.0 page.1 more → ShowsPage g q version size offset page more
plan_shows g q version size offset page more r NoPath h p e = absurd (let f : reply.NoPath version ≡ reply.Page page.0 page.1 more = sym p ∙ e in cc)
plan_shows g q version size offset page more r (Found optimum others) h p e =
    let same = same_page page.0 version page.1 p.span more (more_of version (query_of q) size p.span) (sym e ∙ p.is) in
    record {
      optimum = optimum;
      others = others;
      number = same.numbers;
      is_answer = h;
      is_page = subst (λ (s : PageSpan). IsPage (1 + length others) size offset s) (sym same.spans) p.page;
      is_more = same.cursors ∙ ap (λ (s : PageSpan). more_of version (query_of q) size s) (sym same.spans);
    }

answered_shows : (g : Graph) (state next : State) (request : Request) (q : CursorQuery) (version size offset : ℕ) (page : ℕ × PageSpan) (more : Option Cursor) (o : Result Asked ErrorKind) (r : Reply) (shown : Option Plan) → Asks o (asked.Page version (query_of q) size offset) → IsAnswered g state request o r shown next → r ≡ reply.Page page.0 page.1 more → ShowsPage (graph_at g state version) q version size offset page more
answered_shows g state next request q version size offset page more (Err kind) r shown a h e =
    absurd (let f : reply.Error kind ≡ reply.Page page.0 page.1 more = sym h.0 ∙ e in cc)
answered_shows g state next request q version size offset page more (Ok other) r shown a (inr h) e =
    absurd (let f : reply.Error error.Memory ≡ reply.Page page.0 page.1 more = sym h.0.is ∙ e in cc)
answered_shows g state next request q version size offset page more (Ok other) r shown a (inl h) e =
    ⊎_elim
    (λ (refused : (kind : ErrorKind) × (◌≡◌ {A = Result Asked ErrorKind} (Ok other) (Err kind))). absurd (let f : ◌≡◌ {A = Result Asked ErrorKind} (Ok other) (Err refused.0) = refused.1 in cc))
    (λ (same : ◌≡◌ {A = Result Asked ErrorKind} (Ok other) (Ok (asked.Page version (query_of q) size offset))).
    let is : other ≡ asked.Page version (query_of q) size offset = cc in
    let paged : IsAnswerTo g state (asked.Page version (query_of q) size offset) r shown next = subst (λ (x : Asked). IsAnswerTo g state x r shown next) is h in
    plan_shows (graph_at g state version) q version size offset page more r paged.0.plan paged.0.is_answer paged.0.is e)
    a.cases

next_shows : (g : Graph) (state next : State) (c : Cursor) (turn : Turn) (page : ℕ × PageSpan) (more : Option Cursor) → turn.request ≡ the.Next c → IsStep g state turn.request turn.reply turn.shown next → turn.reply ≡ reply.Page page.0 page.1 more → ShowsPage (graph_at g state c.version) c.query c.version c.size c.offset page more
next_shows g state next c turn page more is step e =
    let same : IsStep g state (the.Next c) turn.reply turn.shown next = subst (λ (x : Request). IsStep g state x turn.reply turn.shown next) is step in
    answered_shows g state next (the.Next c) c.query c.version c.size c.offset page more (outcome (limits_in g state (the.Next c)) (the.Next c)) turn.reply turn.shown (passed_asks (next_tests (limits_in g state (the.Next c)) c) (asked.Page c.version (query_of c.query) c.size c.offset)) same e

route_shows : (g : Graph) (state next : State) (q : CursorQuery) (size : ℕ) (since : Option ℕ) (turn : Turn) (page : ℕ × PageSpan) (more : Option Cursor) → turn.request ≡ the.Route q size since → IsStep g state turn.request turn.reply turn.shown next → turn.reply ≡ reply.Page page.0 page.1 more → ShowsPage (graph_at g state (newest state)) q (newest state) size 0 page more
route_shows g state next q size since turn page more is step e =
    let same : IsStep g state (the.Route q size since) turn.reply turn.shown next = subst (λ (x : Request). IsStep g state x turn.reply turn.shown next) is step in
    answered_shows g state next (the.Route q size since) q (newest state) size 0 page more (outcome (limits_in g state (the.Route q size since)) (the.Route q size since)) turn.reply turn.shown (passed_asks (route_tests (limits_in g state (the.Route q size since)) q size since) (asked.Page (newest state) (query_of q) size 0)) same e

-- a page is shown only where all tests were passed
shown_passed : (g : Graph) (state next : State) (request : Request) (o : Result Asked ErrorKind) (r : Reply) (shown : Option Plan) (page : ℕ × PageSpan) (more : Option Cursor) → IsAnswered g state request o r shown next → r ≡ reply.Page page.0 page.1 more → (a : Asked) × (o ≡ Ok a)
shown_passed g state next request (Err kind) r shown page more h e =
    absurd (let f : reply.Error kind ≡ reply.Page page.0 page.1 more = sym h.0 ∙ e in cc)
shown_passed g state next request (Ok a) r shown page more h e = (a, refl)

fourth_passed : (a b c d : Bool) (k l m n : ErrorKind) (x y : Asked) → passed ((a, k) ∷ (b, l) ∷ (c, m) ∷ (d, n) ∷ []) x ≡ Ok y → d ≡ false
fourth_passed true b c d k l m n x y e = absurd (let f : ◌≡◌ {A = Result Asked ErrorKind} (Err k) (Ok y) = e in cc)
fourth_passed false true c d k l m n x y e = absurd (let f : ◌≡◌ {A = Result Asked ErrorKind} (Err l) (Ok y) = e in cc)
fourth_passed false false true d k l m n x y e = absurd (let f : ◌≡◌ {A = Result Asked ErrorKind} (Err m) (Ok y) = e in cc)
fourth_passed false false false true k l m n x y e = absurd (let f : ◌≡◌ {A = Result Asked ErrorKind} (Err n) (Ok y) = e in cc)
fourth_passed false false false false k l m n x y e = refl

as_new : (since : Option ℕ) (number : ℕ) → is_newer since number ≡ false → MatchOption since (Unit {0}) (λ k. k ≤ number)
as_new None number e = tt
as_new (Some k) number e = grind (arith, nat_tests)

route_new : (g : Graph) (state next : State) (q : CursorQuery) (size : ℕ) (since : Option ℕ) (turn : Turn) (page : ℕ × PageSpan) (more : Option Cursor) → turn.request ≡ the.Route q size since → IsStep g state turn.request turn.reply turn.shown next → turn.reply ≡ reply.Page page.0 page.1 more → MatchOption since (Unit {0}) (λ k. k ≤ newest state)
route_new g state next q size since turn page more is step e =
    let same : IsStep g state (the.Route q size since) turn.reply turn.shown next = subst (λ (x : Request). IsStep g state x turn.reply turn.shown next) is step in
    let limits = limits_in g state (the.Route q size since) in
    let found = shown_passed g state next (the.Route q size since) (outcome limits (the.Route q size since)) turn.reply turn.shown page more same e in
    as_new since (newest state)
    (fourth_passed (not (are_vertices limits (q.from ∷ q.to ∷ []))) (not (are_ratios q)) (not (is_within 1 64 size)) (is_newer since (newest state)) error.Vertex error.Ratio error.Size (error.Behind (newest state)) (asked.Page (newest state) (query_of q) size 0) found.0 found.1)

-- ---- the pages that cursors lead to

record ChainOf (g : Graph) (q : CursorQuery) (version size offset : ℕ) (pages : List (ℕ × PageSpan)) : Type 0 where
  optimum : Optimum
  others : List Route
  numbers : AllByRecursion (λ (page : ℕ × PageSpan). page.0 ≡ version) pages
  is_answer : IsAnswer g (query_of q) (Found optimum others)
  chain : IsChain (1 + length others) size offset (spans_of pages)

others_same : (a b : Optimum) (rs ss : List Route) → Found a rs ≡ Found b ss → rs ≡ ss
others_same a b rs ss e = cc

last_shown : (version size : ℕ) (q : Query) (span : PageSpan) → (more : Bool) → span.more ≡ more → None ≡ more_of version q size span → more ≡ false
last_shown version size q span false s e = refl
last_shown version size q span true s e = absurd (let f : None ≡ Some (record { version = version; query = numbers_in q; size = size; offset = span.first + span.count }) = e ∙ rw s refl in cc)

numbers_same : (q : CursorQuery) → numbers_in (query_of q) ≡ q
numbers_same q = refl

-- the page is the last, or the others are those of the same answer
abbrev LaterPages : Graph → State → ℕ → Option Cursor → List (ℕ × PageSpan) → Type 0
LaterPages g last newest_then more later =
    MatchOption more (later ≡ []) (λ c. c.version ≤ newest_then → ChainOf (graph_at g last c.version) c.query c.version c.size c.offset later)

chain_end : (g : Graph) (q : CursorQuery) (version size offset : ℕ) (page : ℕ × PageSpan) (more : Option Cursor) → ShowsPage g q version size offset page more → page.1.more ≡ false → ChainOf g q version size offset (page ∷ [])
chain_end g q version size offset page more h e = record {
  optimum = h.optimum;
  others = h.others;
  numbers = (h.number, tt);
  is_answer = h.is_answer;
  chain = (h.is_page, subst (λ (b : Bool). MatchBool b (IsChain (1 + length h.others) size (page.1.first + page.1.count) []) (◌≡◌ {A = List PageSpan} [] [])) (sym e) refl);
}

chain_on : (g : Graph) (q : CursorQuery) (version size offset : ℕ) (page : ℕ × PageSpan) (more : Option Cursor) (later : List (ℕ × PageSpan)) → ShowsPage g q version size offset page more → page.1.more ≡ true → ChainOf g q version size (page.1.first + page.1.count) later → ChainOf g q version size offset (page ∷ later)
chain_on g q version size offset page more later h e rest =
    let same : Found rest.optimum rest.others ≡ Found h.optimum h.others = answer_is_one_lem g (query_of q) _ _ rest.is_answer h.is_answer in
    let alike : rest.others ≡ h.others = others_same rest.optimum h.optimum rest.others h.others same in
    record {
      optimum = h.optimum;
      others = h.others;
      numbers = (h.number, rest.numbers);
      is_answer = h.is_answer;
      chain = (
        h.is_page,
        subst (λ (b : Bool). MatchBool b (IsChain (1 + length h.others) size (page.1.first + page.1.count) (spans_of later)) (spans_of later ≡ [])) (sym e)
            (subst (λ (rs : List Route). IsChain (1 + length rs) size (page.1.first + page.1.count) (spans_of later)) alike rest.chain),
      );
    }

chain_step : (g : Graph) (last : State) (q : CursorQuery) (version size offset most : ℕ) (page : ℕ × PageSpan) (more : Option Cursor) (later pages : List (ℕ × PageSpan)) → ShowsPage (graph_at g last version) q version size offset page more → version ≤ most → pages ≡ page ∷ later → LaterPages g last most more later → (b : Bool) → page.1.more ≡ b → ChainOf (graph_at g last version) q version size offset pages
chain_step g last q version size offset most page more later pages h le join after false e =
    let none : more ≡ None = h.is_more ∙ rw e refl in
    let ends : later ≡ [] = subst (λ (o : Option Cursor). LaterPages g last most o later) none after in
    subst (λ (ps : List (ℕ × PageSpan)). ChainOf (graph_at g last version) q version size offset ps) (sym (join ∙ ap (λ (ps : List (ℕ × PageSpan)). page ∷ ps) ends))
    (chain_end (graph_at g last version) q version size offset page more h e)
chain_step g last q version size offset most page more later pages h le join after true e =
    let next : Cursor = record { version = version; query = numbers_in (query_of q); size = size; offset = page.1.first + page.1.count } in
    let some : more ≡ Some next = h.is_more ∙ rw e refl in
    let rest : ChainOf (graph_at g last version) q version size (page.1.first + page.1.count) later = (subst (λ (o : Option Cursor). LaterPages g last most o later) some after) le in
    subst (λ (ps : List (ℕ × PageSpan)). ChainOf (graph_at g last version) q version size offset ps) (sym join)
    (chain_on (graph_at g last version) q version size offset page more later h e rest)

later_pages : (g : Graph) (next last : State) (turns : List Turn) (more : Option Cursor) (later : List (ℕ × PageSpan)) → ((c : Cursor) → Follow (the.Next c) turns later → c.version ≤ newest next → ChainOf (graph_at g last c.version) c.query c.version c.size c.offset later) → MatchOption more (later ≡ []) (λ c. Follow (the.Next c) turns later) → LaterPages g last (newest next) more later
later_pages g next last turns None later f h = h
later_pages g next last turns (Some c) later f h = f c h

next_chain : (turns : List Turn) (g : Graph) (state last : State) (c : Cursor) (pages : List (ℕ × PageSpan)) → IsRun g state turns last → Follow (the.Next c) turns pages → c.version ≤ newest state → ChainOf (graph_at g last c.version) c.query c.version c.size c.offset pages
next_chain [] g state last c pages run follow le = absurd follow
next_chain (turn ∷ turns) g state last c pages (next, step, run) (inl others) le =
    let grown = newest_grows state next (step_grows g state next turn step) in
    next_chain turns g next last c pages run others (omega (arith, le, grown))
next_chain (turn ∷ turns) g state last c pages (next, step, run) (inr (page, more, later, is, e, join, after)) le =
    let grown = newest_grows state next (step_grows g state next turn step) in
    let here : graph_at g last c.version ≡ graph_at g state c.version = version_keeps g state last (turn ∷ turns) c.version (next, step, run) le in
    chain_step g last c.query c.version c.size c.offset (newest next) page more later pages
    (subst (λ (G : Graph). ShowsPage G c.query c.version c.size c.offset page more) (sym here) (next_shows g state next c turn page more is step e))
    (omega (arith, le, grown)) join
    (later_pages g next last turns more later (λ (d : Cursor) (f : Follow (the.Next d) turns later) (l : d.version ≤ newest next). next_chain turns g next last d later run f l) after)
    page.1.more refl

record RoutePages (g : Graph) (state last : State) (q : CursorQuery) (size : ℕ) (since : Option ℕ) (pages : List (ℕ × PageSpan)) : Type 0 where
  number : ℕ
  is_published : number ≤ newest last
  is_fresh : newest state ≤ number
  as_asked : MatchOption since (Unit {0}) (λ k. k ≤ number)
  chain : ChainOf (graph_at g last number) q number size 0 pages

route_chain : (turns : List Turn) (g : Graph) (state last : State) (q : CursorQuery) (size : ℕ) (since : Option ℕ) (pages : List (ℕ × PageSpan)) → IsRun g state turns last → Follow (the.Route q size since) turns pages → RoutePages g state last q size since pages
route_chain [] g state last q size since pages run follow = absurd follow
route_chain (turn ∷ turns) g state last q size since pages (next, step, run) (inl others) =
    let grown = newest_grows state next (step_grows g state next turn step) in
    let found = route_chain turns g next last q size since pages run others in
    record {
      number = found.number;
      is_published = found.is_published;
      is_fresh = omega (arith, grown, found.is_fresh);
      as_asked = found.as_asked;
      chain = found.chain;
    }
route_chain (turn ∷ turns) g state last q size since pages (next, step, run) (inr (page, more, later, is, e, join, after)) =
    let grown = newest_grows state next (step_grows g state next turn step) in
    let here : graph_at g last (newest state) ≡ graph_at g state (newest state) = version_keeps g state last (turn ∷ turns) (newest state) (next, step, run) (omega arith) in
    record {
      number = newest state;
      is_published = newest_grows state last (run_grows g state last (turn ∷ turns) (next, step, run));
      is_fresh = omega arith;
      as_asked = route_new g state next q size since turn page more is step e;
      chain = chain_step g last q (newest state) size 0 (newest next) page more later pages
          (subst (λ (G : Graph). ShowsPage G q (newest state) size 0 page more) (sym here) (route_shows g state next q size since turn page more is step e))
          grown join
          (later_pages g next last turns more later (λ (d : Cursor) (f : Follow (the.Next d) turns later) (l : d.version ≤ newest next). next_chain turns g next last d later run f l) after)
          page.1.more refl;
    }

many_paths : (optimum : Optimum) (others : List Route) → 1 + length others ≡ length (paths_in optimum others)
many_paths optimum others =
    let same : length (map (λ (r : Route). r.arcs) others) ≡ length others = length-map others (λ (r : Route). r.arcs) in
    omega (arith, same)

pub pages_join : (g : Graph) (state last : State) (turns : List Turn) (q : CursorQuery) (size : ℕ) (since : Option ℕ) (pages : List (ℕ × PageSpan)) → IsRun g state turns last → Follow (the.Route q size since) turns pages → PagesJoin g state last q since pages
pages_join g state last turns q size since pages run follow =
    let found = route_chain turns g state last q size since pages run follow in
    let c = found.chain in
    record {
      number = found.number;
      optimum = c.optimum;
      others = c.others;
      one_version = c.numbers;
      is_published = found.is_published;
      is_fresh = found.is_fresh;
      as_asked = found.as_asked;
      is_answer = c.is_answer;
      whole = joined-from size (paths_in c.optimum c.others) (spans_of pages) 0 (omega arith)
          (subst (λ (n : ℕ). IsChain n size 0 (spans_of pages)) (many_paths c.optimum c.others) c.chain);
    }
