-- Runs laid out one after another.
use Rattle.std.proofs.Common.{◌≡◌, ◌≢◌, ◌+◌, ◌-◌, ◌<◌, ◌≤◌, ◌⊎◌, ℕ, zero, suc, List, [], ◌∷◌, ◌++◌, length, slice_index, get_or, set, take, eqb, refl, sym, ap, ◌∙◌, subst, arith, inl, inr, ⊎_elim, get_or-set_same, get_or-set_other, length-append}
use Rattle.std.specs.List.{All, Contains, dedup}
use Rattle.std.specs.List.Sorted.{IsStrictlyIncreasing, IsPermutation}
use Rattle.std.proofs.Math.ListN.{length-set}
use Rattle.std.proofs.lemmas.Bool.{cases_lt}
use Rattle.std.proofs.lemmas.List.{get_or_append_left, get_or-append_right, get_or_default}
use Rattle.std.proofs.lemmas.List.Elements.{All-more, All-weaker, Contains-get_or, Contains-push, Contains-push_cases, Contains-append_left}
use Rattle.std.proofs.lemmas.List.Kept.{Contains-dedup_nat, Contains-from_dedup}
use Rattle.std.proofs.lemmas.List.Sorted.{Contains-permutation, IsPermutation-sym}
use Rattle.road_model.specs.declared.rows.ArcRow.{ArcRow}
use Rattle.road_model.proofs.Basics.{same_or_other}
use Rattle.hierarchy_build.specs.Runs.{InSpan, IsUp, IsShape, IsPlaced}
use Rattle.hierarchy_build.specs.Waits.{waiting, nothing_waits, IsPut, IsInside, Waits, IsDue, IsRun, IsAmong, IsSent, ShapeSoFar}

none_in_nil : (x : ℕ) (A : Type 0) → Contains [] x → A
none_in_nil x A h = absurd (let low : h.0 < 0 = h.1 in omega arith)

nil_at : (n a : ℕ) → waiting (nothing_waits n) a ≡ []
nil_at zero a = refl
nil_at (suc n) zero = refl
nil_at (suc n) (suc a) = nil_at n a

length_nothing : (n : ℕ) → length (nothing_waits n) ≡ n
length_nothing zero = refl
length_nothing (suc n) = omega (arith, length_nothing n)

pub IsInside-none : (n : ℕ) → IsInside n (nothing_waits n)
IsInside-none n =
    record {
      size = length_nothing n;
      above = (λ a y h. none_in_nil y (a < y) (subst (λ (l : List ℕ). Contains l y) (nil_at n a) h));
      within = (λ a y h. none_in_nil y (y < n) (subst (λ (l : List ℕ). Contains l y) (nil_at n a) h));
    }

pub IsInside-put : (n a x : ℕ) (old new : List (List ℕ)) → IsInside n old → IsPut a x old new → a < x → x < n → IsInside n new
IsInside-put n a x old new h p lt inside =
    record {
      size = p.size ∙ h.size;
      above = (λ b y c.
          ⊎_elim
          (λ (was : Contains (waiting old b) y). h.above b y was)
          (λ (is : (b ≡ a) × (y ≡ x)). let e = is.0 in let f = is.1 in let r : b < y = omega arith in r)
          (p.only b y c));
      within = (λ b y c.
          ⊎_elim
          (λ (was : Contains (waiting old b) y). h.within b y was)
          (λ (is : (b ≡ a) × (y ≡ x)). let f = is.1 in let r : y < n = omega arith in r)
          (p.only b y c));
    }

pub Waits-first : (first head : List ℕ) (p : List (List ℕ)) (a b : ℕ) → Contains (waiting p a) b → Waits 0 first head p a b
Waits-first first head p a b h =
    record { done = (λ low. absurd (omega arith)); later = (λ le. h) }

pub Waits-from_none : (first head first' head' : List ℕ) (p : List (List ℕ)) (a b : ℕ) → Waits 0 first head p a b → Waits 0 first' head' p a b
Waits-from_none first head first' head' p a b h = Waits-first first' head' p a b (h.later (omega arith))

pub IsDue-kept : (rank first head : List ℕ) (p q : List (List ℕ)) (r : ArcRow) → ((b y : ℕ) → Contains (waiting p b) y → Contains (waiting q b) y) → IsDue 0 rank first head p r → IsDue 0 rank first head q r
IsDue-kept rank first head p q r kept h =
    record {
      rise = (λ lt. Waits-first first head q (slice_index rank r.tail) (slice_index rank r.head) (kept (slice_index rank r.tail) (slice_index rank r.head) ((h.rise lt).later (omega arith))));
      fall = (λ lt. Waits-first first head q (slice_index rank r.head) (slice_index rank r.tail) (kept (slice_index rank r.head) (slice_index rank r.tail) ((h.fall lt).later (omega arith))));
    }

pub due_more : (rank : List ℕ) (rows : List ArcRow) (i : ℕ) (r : ArcRow) (p q : List (List ℕ)) → i < length rows → r ≡ get_or rows i r → ((b y : ℕ) → Contains (waiting p b) y → Contains (waiting q b) y) → All (IsDue 0 rank [] [] p) (take i rows) → IsDue 0 rank [] [] q r → All (IsDue 0 rank [] [] q) (take (i + 1) rows)
due_more rank rows i r p q inside read kept h here =
    All-more (λ x. IsDue 0 rank [] [] q x) rows i r inside
    (All-weaker (λ x. IsDue 0 rank [] [] p x) (λ x. IsDue 0 rank [] [] q x) (λ x d. IsDue-kept rank [] [] p q x kept d) (take i rows) h)
    (subst (λ (x : ArcRow). IsDue 0 rank [] [] q x) read here)

-- sorted and without doubles
increasing_far : (xs : List ℕ) → IsStrictlyIncreasing xs → (d j : ℕ) → j + suc d < length xs → slice_index xs j < slice_index xs (j + suc d)
increasing_far xs h zero j inside =
    let same : j + 1 ≡ j + suc zero = omega arith in
    subst (λ (k : ℕ). slice_index xs j < slice_index xs k) same (h j (omega arith))
increasing_far xs h (suc d) j inside =
    let near : slice_index xs j < slice_index xs (j + suc d) = increasing_far xs h d j (omega arith) in
    let next : slice_index xs (j + suc d) < slice_index xs ((j + suc d) + 1) = h (j + suc d) (omega arith) in
    let same : (j + suc d) + 1 ≡ j + suc (suc d) = omega arith in
    subst (λ (k : ℕ). slice_index xs j < slice_index xs k) same (omega arith)

increasing_all : (xs : List ℕ) → IsStrictlyIncreasing xs → (j k : ℕ) → j < k → k < length xs → slice_index xs j < slice_index xs k
increasing_all xs h j k lt inside =
    let same : j + suc (k - j - 1) ≡ k = omega arith in
    subst (λ (n : ℕ). slice_index xs j < slice_index xs n) same (increasing_far xs h (k - j - 1) j (omega arith))

pub IsRun-sorted : (heads sorted run : List ℕ) → IsPermutation heads sorted → run ≡ dedup eqb sorted → IsStrictlyIncreasing (dedup eqb sorted) → IsRun heads run
IsRun-sorted heads sorted run p is rises =
    record {
      ascending = (λ j k lt inside. increasing_all run (subst (λ (l : List ℕ). IsStrictlyIncreasing l) (sym is) rises) j k lt inside);
      only = (λ x h. Contains-permutation sorted heads x (IsPermutation-sym heads sorted p) (Contains-from_dedup eqb sorted x (subst (λ (l : List ℕ). Contains l x) is h)));
      all = (λ x h. subst (λ (l : List ℕ). Contains l x) (sym is) (Contains-dedup_nat sorted x (Contains-permutation heads sorted x p h)));
    }

-- the rest of a run sent on
pub IsSent-none : (run : List ℕ) (a i : ℕ) (p : List (List ℕ)) → i ≤ 1 → IsSent run i a p p
IsSent-none run a i p le =
    record {
      size = refl;
      there = (λ k late early. absurd (omega arith));
      kept = (λ b y h. h);
      only = (λ b y h. inl h);
    }

pub IsSent-more : (run : List ℕ) (a i x : ℕ) (p q q' : List (List ℕ)) → 1 ≤ i → x ≡ slice_index run i → IsSent run i a p q → IsPut a x q q' → IsSent run (i + 1) a p q'
IsSent-more run a i x p q q' le is h put =
    record {
      size = put.size ∙ h.size;
      there = (λ k late early.
          ⊎_elim
          (λ (old : k < i). put.kept a (slice_index run k) (h.there k late old))
          (λ (new : i ≤ k). let same : i ≡ k = omega arith in subst (λ (n : ℕ). Contains (waiting q' a) n) (is ∙ ap (λ (n : ℕ). slice_index run n) same) put.there)
          (cases_lt k i));
      kept = (λ b y c. put.kept b y (h.kept b y c));
      only = (λ b y c.
          ⊎_elim
          (λ (was : Contains (waiting q b) y).
          ⊎_elim
          (λ (old : Contains (waiting p b) y). let r : Contains (waiting p b) y ⊎ IsAmong run (i + 1) a b y = inl old in r)
          (λ (among : IsAmong run i a b y). let r : Contains (waiting p b) y ⊎ IsAmong run (i + 1) a b y = inr (record { list = among.list; place = among.place; late = among.late; early = (let low = among.early in omega arith); is = among.is }) in r)
          (h.only b y was))
          (λ (new : (b ≡ a) × (y ≡ x)). let r : Contains (waiting p b) y ⊎ IsAmong run (i + 1) a b y = inr (record { list = new.0; place = i; late = le; early = omega arith; is = sym is ∙ sym new.1 }) in r)
          (put.only b y c));
    }

-- the lists and arrays of the next rank
pub record Turn (n v : ℕ) (first head : List ℕ) (p : List (List ℕ)) (run : List ℕ) (q : List (List ℕ)) : Type 0 where
  pub so_far : ShapeSoFar n v first head p
  pub rank : v < n
  pub is_run : IsRun (waiting p v) run
  pub sent : IsSent run (length run) (slice_index run 0) (set p v []) q

first_below : (n v : ℕ) (first head : List ℕ) (p : List (List ℕ)) (run : List ℕ) (q : List (List ℕ)) (e w : ℕ) → Turn n v first head p run q → w ≤ v → slice_index (first ++ e ∷ []) w ≡ slice_index first w
first_below n v first head p run q e w t le = (let size = t.so_far.size in get_or_append_left first (e ∷ []) 0 w (omega arith))

first_last : (n v : ℕ) (first head : List ℕ) (p : List (List ℕ)) (run : List ℕ) (q : List (List ℕ)) (e : ℕ) → Turn n v first head p run q → slice_index (first ++ e ∷ []) (v + 1) ≡ e
first_last n v first head p run q e t =
    let size = t.so_far.size in
    let at : slice_index (first ++ e ∷ []) (length first) ≡ slice_index (e ∷ []) (length first - length first) = get_or-append_right first (e ∷ []) (length first) (length first) 0 refl (omega arith) in
    let zero' : length first - length first ≡ 0 = omega arith in
    ap (λ (k : ℕ). slice_index (first ++ e ∷ []) k) (sym size) ∙ at ∙ ap (λ (k : ℕ). slice_index (e ∷ []) k) zero'

head_old : (head run : List ℕ) (k : ℕ) → k < length head → slice_index (head ++ run) k ≡ slice_index head k
head_old head run k inside = get_or_append_left head run 0 k inside

head_new : (head run : List ℕ) (k : ℕ) → length head ≤ k → slice_index (head ++ run) k ≡ slice_index run (k - length head)
head_new head run k late = get_or-append_right head run (length head) k 0 refl late

span_old : (n v : ℕ) (first head : List ℕ) (p : List (List ℕ)) (run : List ℕ) (q : List (List ℕ)) (e u k : ℕ) → Turn n v first head p run q → u < v → InSpan (first ++ e ∷ []) u k → InSpan first u k
span_old n v first head p run q e u k t lt h =
    let low = h.low in
    let high = h.high in
    let a = first_below n v first head p run q e u t (omega arith) in
    let b = first_below n v first head p run q e (u + 1) t (omega arith) in
    record { low = omega arith; high = omega arith }

span_kept : (n v : ℕ) (first head : List ℕ) (p : List (List ℕ)) (run : List ℕ) (q : List (List ℕ)) (e u k : ℕ) → Turn n v first head p run q → u < v → InSpan first u k → InSpan (first ++ e ∷ []) u k
span_kept n v first head p run q e u k t lt h =
    let low = h.low in
    let high = h.high in
    let a = first_below n v first head p run q e u t (omega arith) in
    let b = first_below n v first head p run q e (u + 1) t (omega arith) in
    record { low = omega arith; high = omega arith }

-- an old place lies among the old heads
old_inside : (n v : ℕ) (first head : List ℕ) (p : List (List ℕ)) (u k : ℕ) → ShapeSoFar n v first head p → u < v → InSpan first u k → k < length head
old_inside n v first head p u k s lt h =
    let rise : slice_index first (u + 1) ≤ slice_index first v = s.rising (u + 1) v (omega arith) (omega arith) in
    let end = s.end in
    let high = h.high in
    omega arith

up_kept : (n v : ℕ) (first head : List ℕ) (p : List (List ℕ)) (run : List ℕ) (q : List (List ℕ)) (e a b : ℕ) → Turn n v first head p run q → a < v → IsUp first head a b → IsUp (first ++ e ∷ []) (head ++ run) a b
up_kept n v first head p run q e a b t lt h =
    record {
      place = h.place;
      span = span_kept n v first head p run q e a h.place t lt h.span;
      is = head_old head run h.place (old_inside n v first head p a h.place t.so_far lt h.span) ∙ h.is;
    }

-- a place of the new run
record InRun (head run : List ℕ) (k : ℕ) : Type 0 where
  late : length head ≤ k
  inside : k - length head < length run
  is : slice_index (head ++ run) k ≡ slice_index run (k - length head)

in_run : (n v : ℕ) (first head : List ℕ) (p : List (List ℕ)) (run : List ℕ) (q : List (List ℕ)) (k : ℕ) → Turn n v first head p run q → InSpan (first ++ length (head ++ run) ∷ []) v k → InRun head run k
in_run n v first head p run q k t h =
    let low = h.low in
    let high = h.high in
    let a = first_below n v first head p run q (length (head ++ run)) v t (omega arith) in
    let b = first_last n v first head p run q (length (head ++ run)) t in
    let end = t.so_far.end in
    let long = length-append head run in
    let late : length head ≤ k = omega arith in
    record { late = late; inside = omega arith; is = head_new head run k late }

run_waits : (n v : ℕ) (first head : List ℕ) (p : List (List ℕ)) (run : List ℕ) (q : List (List ℕ)) (i : ℕ) → Turn n v first head p run q → i < length run → Contains (waiting p v) (slice_index run i)
run_waits n v first head p run q i t inside = t.is_run.only (slice_index run i) (Contains-get_or run i 0 inside)

pub Waits-turn : (n v : ℕ) (first head : List ℕ) (p : List (List ℕ)) (run : List ℕ) (q : List (List ℕ)) → Turn n v first head p run q → (a b : ℕ) → Waits v first head p a b → Waits (v + 1) (first ++ length (head ++ run) ∷ []) (head ++ run) q a b
Waits-turn n v first head p run q t a b h =
    record {
      done = (λ low.
          ⊎_elim
          (λ (old : a < v). up_kept n v first head p run q (length (head ++ run)) a b t old (h.done old))
          (λ (new : v ≤ a).
          let same : a ≡ v = omega arith in
          let there : Contains run b = t.is_run.all b (subst (λ (x : ℕ). Contains (waiting p x) b) same (h.later new)) in
          let at : ℕ = length head + there.0 in
          let inside = there.1 in
          let first_v = first_below n v first head p run q (length (head ++ run)) v t (omega arith) in
          let last = first_last n v first head p run q (length (head ++ run)) t in
          let end = t.so_far.end in
          let long = length-append head run in
          let minus : length head + there.0 - length head ≡ there.0 = omega arith in
          let up : IsUp (first ++ length (head ++ run) ∷ []) (head ++ run) v b = record {
            place = length head + there.0;
            span = record { low = omega arith; high = omega arith };
            is = head_new head run (length head + there.0) (omega arith) ∙ ap (λ (x : ℕ). slice_index run x) minus ∙ sym (get_or_default run there.0 b 0 there.1) ∙ there.2;
          } in
          subst (λ (x : ℕ). IsUp (first ++ length (head ++ run) ∷ []) (head ++ run) x b) (sym same) up)
          (cases_lt a v));
      later = (λ le.
          let ne : a ≢ v = (λ e. absurd (omega arith)) in
          let still : waiting (set p v []) a ≡ waiting p a = get_or-set_other p v a [] [] ne in
          t.sent.kept a b (subst (λ (l : List ℕ). Contains l b) (sym still) (h.later (omega arith))));
    }

waits_inside : (n v : ℕ) (first head : List ℕ) (p : List (List ℕ)) (run : List ℕ) (q : List (List ℕ)) (a y : ℕ) → Turn n v first head p run q → Contains (waiting q a) y → (a < y) × (y < n)
waits_inside n v first head p run q a y t h =
    let s = t.so_far in
    ⊎_elim
    (λ (old : Contains (waiting (set p v []) a) y).
    ⊎_elim
    (λ (same : a ≡ v).
    let inside : v < length p = (let size = s.waits.size in let rank = t.rank in omega arith) in
    let none : waiting (set p v []) a ≡ [] = ap (λ (x : ℕ). waiting (set p v []) x) same ∙ get_or-set_same p v [] [] inside in
    none_in_nil y ((a < y) × (y < n)) (subst (λ (l : List ℕ). Contains l y) none old))
    (λ (other : a ≢ v).
    let still : waiting (set p v []) a ≡ waiting p a = get_or-set_other p v a [] [] other in
    let was : Contains (waiting p a) y = subst (λ (l : List ℕ). Contains l y) still old in
    let r : (a < y) × (y < n) = (s.waits.above a y was, s.waits.within a y was) in r)
    (same_or_other a v))
    (λ (new : IsAmong run (length run) (slice_index run 0) a y).
    let is = new.is in
    let list = new.list in
    let rise : slice_index run 0 < slice_index run new.place = t.is_run.ascending 0 new.place (let late = new.late in omega arith) new.early in
    let below : slice_index run new.place < n = s.waits.within v (slice_index run new.place) (run_waits n v first head p run q new.place t new.early) in
    let r : (a < y) × (y < n) = (omega arith, omega arith) in r)
    (t.sent.only a y h)

pub ShapeSoFar-turn : (n v : ℕ) (first head : List ℕ) (p : List (List ℕ)) (run : List ℕ) (q : List (List ℕ)) → Turn n v first head p run q → ShapeSoFar n (v + 1) (first ++ length (head ++ run) ∷ []) (head ++ run) q
ShapeSoFar-turn n v first head p run q t =
    let s = t.so_far in
    let rank = t.rank in
    let size' = s.size in
    let end' = s.end in
    let e : ℕ = length (head ++ run) in
    let last = first_last n v first head p run q (length (head ++ run)) t in
    let long = length-append head run in
    record {
      size = omega (arith, length-append first (length (head ++ run) ∷ []));
      begin = first_below n v first head p run q (length (head ++ run)) 0 t (omega arith) ∙ s.begin;
      end = last;
      rising = (λ u w le low.
          ⊎_elim
          (λ (old : w < v + 1).
          let a = first_below n v first head p run q (length (head ++ run)) u t (omega arith) in
          let b = first_below n v first head p run q (length (head ++ run)) w t (omega arith) in
          let rise = s.rising u w le (omega arith) in
          let r : slice_index (first ++ length (head ++ run) ∷ []) u ≤ slice_index (first ++ length (head ++ run) ∷ []) w = omega arith in r)
          (λ (new : v + 1 ≤ w).
          let same : w ≡ v + 1 = omega arith in
          let top : slice_index (first ++ length (head ++ run) ∷ []) w ≡ length (head ++ run) = ap (λ (x : ℕ). slice_index (first ++ length (head ++ run) ∷ []) x) same ∙ last in
          ⊎_elim
          (λ (lower : u < v + 1).
          let a = first_below n v first head p run q (length (head ++ run)) u t (omega arith) in
          let rise = s.rising u v (omega arith) (omega arith) in
          let r : slice_index (first ++ length (head ++ run) ∷ []) u ≤ slice_index (first ++ length (head ++ run) ∷ []) w = omega arith in r)
          (λ (equal : v + 1 ≤ u).
          let both : u ≡ w = omega arith in
          let is : slice_index (first ++ length (head ++ run) ∷ []) u ≡ slice_index (first ++ length (head ++ run) ∷ []) w = ap (λ (x : ℕ). slice_index (first ++ length (head ++ run) ∷ []) x) both in
          let r : slice_index (first ++ length (head ++ run) ∷ []) u ≤ slice_index (first ++ length (head ++ run) ∷ []) w = omega arith in r)
          (cases_lt u (v + 1)))
          (cases_lt w (v + 1)));
      above = (λ u k low span.
          ⊎_elim
          (λ (old : u < v).
          let was = span_old n v first head p run q (length (head ++ run)) u k t old span in
          let is = head_old head run k (old_inside n v first head p u k s old was) in
          let up = s.above u k old was in
          let r : u < slice_index (head ++ run) k = omega arith in r)
          (λ (new : v ≤ u).
          let same : u ≡ v = omega arith in
          let place = in_run n v first head p run q k t (subst (λ (x : ℕ). InSpan (first ++ length (head ++ run) ∷ []) x k) same span) in
          let is = place.is in
          let up = s.waits.above v (slice_index run (k - length head)) (run_waits n v first head p run q (k - length head) t place.inside) in
          let r : u < slice_index (head ++ run) k = omega arith in r)
          (cases_lt u v));
      within = (λ k inside.
          ⊎_elim
          (λ (old : k < length head).
          let is = head_old head run k old in
          let low = s.within k old in
          let r : slice_index (head ++ run) k < n = omega arith in r)
          (λ (new : length head ≤ k).
          let is = head_new head run k new in
          let low = s.waits.within v (slice_index run (k - length head)) (run_waits n v first head p run q (k - length head) t (omega arith)) in
          let r : slice_index (head ++ run) k < n = omega arith in r)
          (cases_lt k (length head)));
      ascending = (λ u j k low at_j at_k lt.
          ⊎_elim
          (λ (old : u < v).
          let was_j = span_old n v first head p run q (length (head ++ run)) u j t old at_j in
          let was_k = span_old n v first head p run q (length (head ++ run)) u k t old at_k in
          let is_j = head_old head run j (old_inside n v first head p u j s old was_j) in
          let is_k = head_old head run k (old_inside n v first head p u k s old was_k) in
          let rise = s.ascending u j k old was_j was_k lt in
          let r : slice_index (head ++ run) j < slice_index (head ++ run) k = omega arith in r)
          (λ (new : v ≤ u).
          let same : u ≡ v = omega arith in
          let place_j = in_run n v first head p run q j t (subst (λ (x : ℕ). InSpan (first ++ length (head ++ run) ∷ []) x j) same at_j) in
          let place_k = in_run n v first head p run q k t (subst (λ (x : ℕ). InSpan (first ++ length (head ++ run) ∷ []) x k) same at_k) in
          let is_j = place_j.is in
          let is_k = place_k.is in
          let late = place_j.late in
          let rise = t.is_run.ascending (j - length head) (k - length head) (omega arith) place_k.inside in
          let r : slice_index (head ++ run) j < slice_index (head ++ run) k = omega arith in r)
          (cases_lt u v));
      sent = (λ u k low span later.
          ⊎_elim
          (λ (old : u < v).
          let was = span_old n v first head p run q (length (head ++ run)) u k t old span in
          let at_first = first_below n v first head p run q (length (head ++ run)) u t (omega arith) in
          let low_first : slice_index first u < k = omega arith in
          let inside = old_inside n v first head p u k s old was in
          let is_k = head_old head run k inside in
          let is_first : slice_index (head ++ run) (slice_index (first ++ length (head ++ run) ∷ []) u) ≡ slice_index head (slice_index first u) = ap (λ (x : ℕ). slice_index (head ++ run) x) at_first ∙ head_old head run (slice_index first u) (omega arith) in
          let here = Waits-turn n v first head p run q t (slice_index head (slice_index first u)) (slice_index head k) (s.sent u k old was low_first) in
          subst (λ (x : ℕ). Waits (v + 1) (first ++ length (head ++ run) ∷ []) (head ++ run) q x (slice_index (head ++ run) k)) (sym is_first)
          (subst (λ (x : ℕ). Waits (v + 1) (first ++ length (head ++ run) ∷ []) (head ++ run) q (slice_index head (slice_index first u)) x) (sym is_k) here))
          (λ (new : v ≤ u).
          let same : u ≡ v = omega arith in
          let place = in_run n v first head p run q k t (subst (λ (x : ℕ). InSpan (first ++ length (head ++ run) ∷ []) x k) same span) in
          let at_first : slice_index (first ++ length (head ++ run) ∷ []) u ≡ length head = ap (λ (x : ℕ). slice_index (first ++ length (head ++ run) ∷ []) x) same ∙ first_below n v first head p run q (length (head ++ run)) v t (omega arith) ∙ end' in
          let minus : length head - length head ≡ 0 = omega arith in
          let is_first : slice_index (head ++ run) (slice_index (first ++ length (head ++ run) ∷ []) u) ≡ slice_index run 0 = ap (λ (x : ℕ). slice_index (head ++ run) x) at_first ∙ head_new head run (length head) (omega arith) ∙ ap (λ (x : ℕ). slice_index run x) minus in
          let there : Contains (waiting q (slice_index run 0)) (slice_index run (k - length head)) = t.sent.there (k - length head) (omega arith) place.inside in
          let up = s.waits.above v (slice_index run 0) (run_waits n v first head p run q 0 t (let i = place.inside in omega arith)) in
          let here : Waits (v + 1) (first ++ length (head ++ run) ∷ []) (head ++ run) q (slice_index run 0) (slice_index run (k - length head)) = record { done = (λ less. absurd (omega arith)); later = (λ le. there) } in
          subst (λ (x : ℕ). Waits (v + 1) (first ++ length (head ++ run) ∷ []) (head ++ run) q x (slice_index (head ++ run) k)) (sym is_first)
          (subst (λ (x : ℕ). Waits (v + 1) (first ++ length (head ++ run) ∷ []) (head ++ run) q (slice_index run 0) x) (sym place.is) here))
          (cases_lt u v));
      waits = record {
        size = t.sent.size ∙ length-set p v [] ∙ s.waits.size;
        above = (λ a y h. (waits_inside n v first head p run q a y t h).0);
        within = (λ a y h. (waits_inside n v first head p run q a y t h).1);
      };
    }

pub ShapeSoFar-none : (n : ℕ) (p : List (List ℕ)) → IsInside n p → ShapeSoFar n 0 (0 ∷ []) [] p
ShapeSoFar-none n p h =
    record {
      size = refl;
      begin = refl;
      end = refl;
      rising = (λ u w le low. let a : u ≡ w = omega arith in let is : slice_index (0 ∷ []) u ≡ slice_index (0 ∷ []) w = ap (λ (x : ℕ). slice_index (0 ∷ []) x) a in let r : slice_index (0 ∷ []) u ≤ slice_index (0 ∷ []) w = omega arith in r);
      above = (λ u k low span. absurd (omega arith));
      within = (λ k inside. absurd (let low : k < 0 = inside in omega arith));
      ascending = (λ u j k low at_j at_k lt. absurd (omega arith));
      sent = (λ u k low span later. absurd (omega arith));
      waits = h;
    }

-- when every run is laid out, of two in one run the lower has the higher in its own
plain : (n : ℕ) (first head : List ℕ) (p : List (List ℕ)) → ShapeSoFar n n first head p → (m v j k : ℕ) → n ≤ v + m → v < n → InSpan first v j → InSpan first v k → j < k → IsUp first head (slice_index head j) (slice_index head k)
plain n first head p s zero v j k fuel is_v at_j at_k lt = absurd (omega arith)
plain n first head p s (suc m) v j k fuel is_v at_j at_k lt =
    let low_j = at_j.low in
    let high_j = at_j.high in
    let low_k = at_k.low in
    let start : ℕ = slice_index first v in
    let at_start : InSpan first v (slice_index first v) = record { low = omega arith; high = omega arith } in
    let parent : slice_index head (slice_index first v) < n = s.within (slice_index first v) (old_inside n n first head p v (slice_index first v) s is_v at_start) in
    let up_k : IsUp first head (slice_index head (slice_index first v)) (slice_index head k) = (s.sent v k is_v at_k (omega arith)).done parent in
    ⊎_elim
    (λ (rest : slice_index first v < j).
    let up_j : IsUp first head (slice_index head (slice_index first v)) (slice_index head j) = (s.sent v j is_v at_j rest).done parent in
    let above = s.above v (slice_index first v) is_v at_start in
    let rise = s.ascending v j k is_v at_j at_k lt in
    let is_j = up_j.is in
    let is_k = up_k.is in
    let places : up_j.place < up_k.place =
    ⊎_elim
    (λ (low : up_j.place < up_k.place). low)
    (λ (ge : up_k.place ≤ up_j.place).
    ⊎_elim
    (λ (gt : up_k.place < up_j.place).
    let turned : slice_index head up_k.place < slice_index head up_j.place = s.ascending (slice_index head (slice_index first v)) up_k.place up_j.place parent up_k.span up_j.span gt in
    let r : up_j.place < up_k.place = absurd (omega arith) in r)
    (λ (le : up_j.place ≤ up_k.place).
    let same : up_j.place ≡ up_k.place = omega arith in
    let equal : slice_index head up_j.place ≡ slice_index head up_k.place = ap (λ (x : ℕ). slice_index head x) same in
    let r : up_j.place < up_k.place = absurd (omega arith) in r)
    (cases_lt up_k.place up_j.place))
    (cases_lt up_j.place up_k.place) in
    let found : IsUp first head (slice_index head up_j.place) (slice_index head up_k.place) = plain n first head p s m (slice_index head (slice_index first v)) up_j.place up_k.place (omega arith) parent up_j.span up_k.span places in
    subst (λ (x : ℕ). IsUp first head x (slice_index head k)) is_j
    (subst (λ (x : ℕ). IsUp first head (slice_index head up_j.place) x) is_k found))
    (λ (here : j ≤ slice_index first v).
    let same : slice_index first v ≡ j = omega arith in
    subst (λ (x : ℕ). IsUp first head (slice_index head x) (slice_index head k)) same up_k)
    (cases_lt (slice_index first v) j)

pub IsShape-all : (n : ℕ) (first head : List ℕ) (p : List (List ℕ)) → ShapeSoFar n n first head p → IsShape n first head
IsShape-all n first head p s =
    record {
      size = s.size;
      begin = s.begin;
      end = s.end;
      rising = s.rising;
      above = s.above;
      within = s.within;
      ascending = s.ascending;
      chordal = (λ v j k is_v at_j at_k lt. plain n first head p s n v j k (omega arith) is_v at_j at_k lt);
    }

pub IsPlaced-all : (n : ℕ) (rank first head : List ℕ) (p q : List (List ℕ)) (r : ArcRow) → slice_index rank r.tail < n → slice_index rank r.head < n → ((a b : ℕ) → Waits 0 [] [] p a b → Waits n first head q a b) → IsDue 0 rank [] [] p r → IsPlaced rank first head r
IsPlaced-all n rank first head p q r tail inside waits due =
    record {
      rise = (λ lt. (waits (slice_index rank r.tail) (slice_index rank r.head) (due.rise lt)).done tail);
      fall = (λ lt. (waits (slice_index rank r.head) (slice_index rank r.tail) (due.fall lt)).done inside);
    }

-- a rank put after those that wait
pub IsPut-pushed : (p : List (List ℕ)) (a x : ℕ) (xs : List ℕ) → a < length p → xs ≡ waiting p a ++ x ∷ [] → IsPut a x p (set p a xs)
IsPut-pushed p a x xs inside is =
    let here : waiting (set p a xs) a ≡ waiting p a ++ x ∷ [] = get_or-set_same p a xs [] inside ∙ is in
    record {
      size = length-set p a xs;
      there = subst (λ (l : List ℕ). Contains l x) (sym here) (Contains-push (waiting p a) x);
      kept = (λ b y h.
          ⊎_elim
          (λ (same : b ≡ a).
          subst (λ (l : List ℕ). Contains l y) (sym (ap (λ (n : ℕ). waiting (set p a xs) n) same ∙ here))
          (Contains-append_left (waiting p a) (x ∷ []) y (subst (λ (n : ℕ). Contains (waiting p n) y) same h)))
          (λ (other : b ≢ a). subst (λ (l : List ℕ). Contains l y) (sym (get_or-set_other p a b xs [] other)) h)
          (same_or_other b a));
      only = (λ b y h.
          ⊎_elim
          (λ (same : b ≡ a).
          ⊎_elim
          (λ (old : Contains (waiting p a) y). let r : Contains (waiting p b) y ⊎ ((b ≡ a) × (y ≡ x)) = inl (subst (λ (n : ℕ). Contains (waiting p n) y) (sym same) old) in r)
          (λ (new : x ≡ y). let r : Contains (waiting p b) y ⊎ ((b ≡ a) × (y ≡ x)) = inr (same, sym new) in r)
          (Contains-push_cases (waiting p a) x y (subst (λ (l : List ℕ). Contains l y) (ap (λ (n : ℕ). waiting (set p a xs) n) same ∙ here) h)))
          (λ (other : b ≢ a). let r : Contains (waiting p b) y ⊎ ((b ≡ a) × (y ≡ x)) = inl (subst (λ (l : List ℕ). Contains l y) (get_or-set_other p a b xs [] other) h) in r)
          (same_or_other b a));
    }

-- an empty run has sent nothing on, as has one with a single rank
pub IsSent-shorter : (run : List ℕ) (a i j : ℕ) (p q : List (List ℕ)) → j ≤ i → (i ≤ j) ⊎ (i ≤ 1) → IsSent run i a p q → IsSent run j a p q
IsSent-shorter run a i j p q le few h =
    record {
      size = h.size;
      there = (λ k late early. h.there k late (omega arith));
      kept = h.kept;
      only = (λ b y c.
          ⊎_elim
          (λ (old : Contains (waiting p b) y). let r : Contains (waiting p b) y ⊎ IsAmong run j a b y = inl old in r)
          (λ (among : IsAmong run i a b y).
          let late = among.late in
          let early = among.early in
          let low : among.place < j = ⊎_elim (λ (s : i ≤ j). let r : among.place < j = omega arith in r) (λ (s : i ≤ 1). let r : among.place < j = absurd (omega arith) in r) few in
          let r : Contains (waiting p b) y ⊎ IsAmong run j a b y = inr (record { list = among.list; place = among.place; late = among.late; early = low; is = among.is }) in r)
          (h.only b y c));
    }

pub record Turned (n v : ℕ) (first head : List ℕ) (p : List (List ℕ)) (first' head' : List ℕ) (q : List (List ℕ)) : Type 0 where
  pub so_far : ShapeSoFar n (v + 1) first' head' q
  pub waits : (a b : ℕ) → Waits v first head p a b → Waits (v + 1) first' head' q a b

pub turned : (n v : ℕ) (first head : List ℕ) (p : List (List ℕ)) (taken run : List ℕ) (rest : List (List ℕ)) (added sends : List ℕ) (e : ℕ) (first' head' : List ℕ) (q : List (List ℕ)) → ShapeSoFar n v first head p → v < n → taken ≡ waiting p v → rest ≡ set p v [] → IsRun taken run → added ≡ run → sends ≡ run → e ≡ length head + length run → head' ≡ head ++ added → first' ≡ first ++ e ∷ [] → IsSent sends (length sends) (slice_index sends 0) rest q → Turned n v first head p first' head' q
turned n v first head p taken run rest added sends e first' head' q s rank is_taken is_rest is_run is_added is_sends is_end is_head is_first sent =
    let t : Turn n v first head p run q = record {
      so_far = s;
      rank = rank;
      is_run = subst (λ (l : List ℕ). IsRun l run) is_taken is_run;
      sent = subst (λ (l : List (List ℕ)). IsSent run (length run) (slice_index run 0) l q) is_rest (subst (λ (l : List ℕ). IsSent l (length l) (slice_index l 0) rest q) is_sends sent);
    } in
    let heads : head ++ run ≡ head' = ap (λ (l : List ℕ). head ++ l) (sym is_added) ∙ sym is_head in
    let end : length (head ++ run) ≡ e = length-append head run ∙ sym is_end in
    let firsts : first ++ length (head ++ run) ∷ [] ≡ first' = ap (λ (x : ℕ). first ++ x ∷ []) end ∙ sym is_first in
    record {
      so_far =
          subst (λ (l : List ℕ). ShapeSoFar n (v + 1) l head' q) firsts
          (subst (λ (l : List ℕ). ShapeSoFar n (v + 1) (first ++ length (head ++ run) ∷ []) l q) heads (ShapeSoFar-turn n v first head p run q t));
      waits = (λ a b h.
          subst (λ (l : List ℕ). Waits (v + 1) l head' q a b) firsts
          (subst (λ (l : List ℕ). Waits (v + 1) (first ++ length (head ++ run) ∷ []) l q a b) heads (Waits-turn n v first head p run q t a b h)));
    }
