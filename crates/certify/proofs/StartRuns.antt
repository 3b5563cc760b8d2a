-- Sorted starts, of which the last one of each run is kept.
use Rattle.std.proofs.Common.{◌≡◌, ◌≢◌, ℕ, ◌<◌, ◌≤◌, ◌⊎◌, ◌+◌, true, false, List, [], ◌∷◌, ◌++◌, length, get_or, map, Contains, IsPermutation, Ordering, sym, ap, ◌∙◌, subst, arith, inl, inr, ⊎_elim, length-append}
use Rattle.std.specs.List.Sorted.{IsStrictlyIncreasing, IsSortedBy}
use Rattle.std.specs.declared.cmp.Ordering.TheVariants.{Less, Equal}
use Rattle.std.specs.Ordering.{nat_cmp, ordering_then, is_lt}
use Rattle.std.specs.Cmp.{IsTotalOrder, nat_cmp_is}
use Rattle.std.proofs.lemmas.Bool.{cases_lt}
use Rattle.std.proofs.lemmas.Cmp.{nat_cmp_total, on_total, then_total}
use Rattle.std.proofs.lemmas.List.{get_or_default, get_or-map, length-map, map-append, get_or_append_left}
use Rattle.std.proofs.lemmas.List.Elements.{Contains-push, Contains-push_cases, Contains-append_left, Contains-get_or}
use Rattle.std.proofs.lemmas.List.Sorted.{ranks_by, sorted_far, Contains-permutation, IsPermutation-sym}
use Rattle.std.proofs.Math.Seq.{get_or-append_seam}
use Rattle.certify.specs.declared.starts.Start.{Start}
use Rattle.certify.specs.Starts.{IsNoHigher, IsSorted, IsRunEnd, IsKept, HasStartFrom, AreFarthest}

-- by rising vertex, and by rising length

abbrev pub start_cmp : Start → Start → Ordering
start_cmp a b = ordering_then (nat_cmp a.vertex b.vertex) (nat_cmp a.rest b.rest)

start_cmp-total : IsTotalOrder start_cmp
start_cmp-total =
    then_total (on_total (λ (s : Start). s.vertex) nat_cmp_total) (on_total (λ (s : Start). s.rest) nat_cmp_total)

lower_vertex : (a b : Start) → a.vertex < b.vertex → is_lt (start_cmp a b) ≡ true
lower_vertex a b lower =
    ap (λ (o : Ordering). is_lt (ordering_then o (nat_cmp a.rest b.rest))) (sym (nat_cmp_is a.vertex b.vertex Less lower))

lower_rest : (a b : Start) → a.vertex ≡ b.vertex → a.rest < b.rest → is_lt (start_cmp a b) ≡ true
lower_rest a b tied lower =
    ap (λ (o : Ordering). is_lt (ordering_then o (nat_cmp a.rest b.rest))) (sym (nat_cmp_is a.vertex b.vertex Equal tied))
    ∙ ap (λ (o : Ordering). is_lt o) (sym (nat_cmp_is a.rest b.rest Less lower))

no_higher : (a b : Start) → is_lt (start_cmp b a) ≡ false → IsNoHigher a b
no_higher a b not =
    ⊎_elim
    (λ (lower : a.vertex < b.vertex). inl lower)
    (λ (ge : b.vertex ≤ a.vertex).
    ⊎_elim
    (λ (above : b.vertex < a.vertex). absurd (let clash : true ≡ false = sym (lower_vertex b a above) ∙ not in cc))
    (λ (le : a.vertex ≤ b.vertex).
    let tied : b.vertex ≡ a.vertex = omega arith in
    ⊎_elim
    (λ (short : b.rest < a.rest). absurd (let clash : true ≡ false = sym (lower_rest b a tied short) ∙ not in cc))
    (λ (long : a.rest ≤ b.rest). inr (sym tied, long))
    (cases_lt b.rest a.rest))
    (cases_lt b.vertex a.vertex))
    (cases_lt a.vertex b.vertex)

pub IsSorted-from_sort : (xs : List Start) → IsSortedBy (λ a b. is_lt (start_cmp a b)) xs → IsSorted xs
IsSorted-from_sort xs up i j d lt inside =
    no_higher (get_or xs i d) (get_or xs j d)
    (sorted_far (λ a b. is_lt (start_cmp a b)) (ranks_by start_cmp-total (λ (s : Start). s)) xs up i j d (omega arith) inside)

no_fall : (ss : List Start) (i j : ℕ) (d : Start) → IsSorted ss → i ≤ j → j < length ss → (get_or ss i d).vertex ≤ (get_or ss j d).vertex
no_fall ss i j d sorted le inside =
    ⊎_elim
    (λ (lt : i < j).
    ⊎_elim
    (λ (lower : (get_or ss i d).vertex < (get_or ss j d).vertex). let r : (get_or ss i d).vertex ≤ (get_or ss j d).vertex = omega arith in r)
    (λ (tied : ((get_or ss i d).vertex ≡ (get_or ss j d).vertex) × ((get_or ss i d).rest ≤ (get_or ss j d).rest)).
    let r : (get_or ss i d).vertex ≤ (get_or ss j d).vertex = omega (arith, tied.0) in
    r)
    (sorted i j d lt inside))
    (λ (ge : j ≤ i).
    let same : i ≡ j = omega arith in
    let r : (get_or ss i d).vertex ≤ (get_or ss j d).vertex = omega (arith, ap (λ (n : ℕ). (get_or ss n d).vertex) same) in
    r)
    (cases_lt i j)

-- numbers that rise, and one more above them
pub rising_push : (xs : List ℕ) (y : ℕ) → IsStrictlyIncreasing xs → ((k : ℕ) → k < length xs → get_or xs k 0 < y) → IsStrictlyIncreasing (xs ++ y ∷ [])
rising_push xs y rising below k lt =
    let long : length (xs ++ y ∷ []) ≡ length xs + 1 = length-append xs (y ∷ []) in
    let here : get_or (xs ++ y ∷ []) k 0 ≡ get_or xs k 0 = get_or_append_left xs (y ∷ []) 0 k (omega arith) in
    ⊎_elim
    (λ (inside : k + 1 < length xs).
    let next : get_or (xs ++ y ∷ []) (k + 1) 0 ≡ get_or xs (k + 1) 0 = get_or_append_left xs (y ∷ []) 0 (k + 1) inside in
    let up : get_or xs k 0 < get_or xs (k + 1) 0 = rising k inside in
    let r : get_or (xs ++ y ∷ []) k 0 < get_or (xs ++ y ∷ []) (k + 1) 0 = omega arith in
    r)
    (λ (last : length xs ≤ k + 1).
    let place : length xs ≡ k + 1 = omega arith in
    let next : get_or (xs ++ y ∷ []) (k + 1) 0 ≡ y = ap (λ (n : ℕ). get_or (xs ++ y ∷ []) n 0) (sym place) ∙ get_or-append_seam xs y [] 0 in
    let up : get_or xs k 0 < y = below k (omega arith) in
    let r : get_or (xs ++ y ∷ []) k 0 < get_or (xs ++ y ∷ []) (k + 1) 0 = omega arith in
    r)
    (cases_lt (k + 1) (length xs))

-- the starts before place k are looked at

pub record IsPending (ss : List Start) (k v : ℕ) : Type 0 where
  pub inside : k < length ss
  pub same : (d : Start) → (get_or ss k d).vertex ≡ v

pub record IsTaken (ss : List Start) (source k : ℕ) (fs : List Start) : Type 0 where
  pub each : (f : Start) → Contains fs f → IsKept ss source f
  pub every : (j : ℕ) (d : Start) → j < k → j < length ss → (get_or ss j d).vertex ≢ source → HasStartFrom fs (get_or ss j d).vertex ⊎ IsPending ss k (get_or ss j d).vertex
  pub rising : IsStrictlyIncreasing (map (λ (f : Start). f.vertex) fs)
  pub below : (f : Start) (j : ℕ) (d : Start) → Contains fs f → k ≤ j → j < length ss → f.vertex < (get_or ss j d).vertex

pub taken_none : (ss : List Start) (source : ℕ) → IsTaken ss source 0 []
taken_none ss source =
    record {
      each = (λ f there. absurd (let none : there.0 < 0 = there.1 in omega arith));
      every = (λ j d lt inside other. absurd (omega arith));
      rising = (λ k lt. absurd (omega arith));
      below = (λ f j d there le inside. absurd (let none : there.0 < 0 = there.1 in omega arith));
    }

record IsPast (ss : List Start) (k : ℕ) (s : Start) : Type 0 where
  above : (j : ℕ) (d : Start) → k + 1 ≤ j → j < length ss → s.vertex < (get_or ss j d).vertex

past_run : (ss : List Start) (k : ℕ) (s : Start) → IsSorted ss → k < length ss → s ≡ get_or ss k s → IsRunEnd ss k true → IsPast ss k s
past_run ss k s sorted lt is end = record {
  above = (λ j d le inside.
      let here : (get_or ss k d).vertex ≡ s.vertex = ap (λ (x : Start). x.vertex) (get_or_default ss k d s lt ∙ sym is) in
      let differ : (get_or ss (k + 1) d).vertex ≢ (get_or ss k d).vertex = end d (omega arith) in
      let up : (get_or ss k d).vertex ≤ (get_or ss (k + 1) d).vertex = no_fall ss k (k + 1) d sorted (omega arith) (omega arith) in
      let on : (get_or ss (k + 1) d).vertex ≤ (get_or ss j d).vertex = no_fall ss (k + 1) j d sorted le inside in
      omega arith);
}

kept_of : (ss : List Start) (source k : ℕ) (s : Start) → IsSorted ss → k < length ss → s ≡ get_or ss k s → s.vertex ≢ source → IsPast ss k s → IsKept ss source s
kept_of ss source k s sorted lt is other past =
    record {
      listed = (k, lt, sym is);
      other = other;
      greatest = (λ t there same.
          let here : get_or ss there.0 t ≡ t = there.2 in
          ⊎_elim
          (λ (before : there.0 < k).
          ⊎_elim
          (λ (lower : (get_or ss there.0 t).vertex < (get_or ss k t).vertex).
          let mine : (get_or ss k t).vertex ≡ s.vertex = ap (λ (x : Start). x.vertex) (get_or_default ss k t s lt ∙ sym is) in
          let its : (get_or ss there.0 t).vertex ≡ t.vertex = ap (λ (x : Start). x.vertex) here in
          let r : t.rest ≤ s.rest = absurd (omega arith) in
          r)
          (λ (tied : ((get_or ss there.0 t).vertex ≡ (get_or ss k t).vertex) × ((get_or ss there.0 t).rest ≤ (get_or ss k t).rest)).
          let mine : (get_or ss k t).rest ≡ s.rest = ap (λ (x : Start). x.rest) (get_or_default ss k t s lt ∙ sym is) in
          let its : (get_or ss there.0 t).rest ≡ t.rest = ap (λ (x : Start). x.rest) here in
          let r : t.rest ≤ s.rest = omega (arith, tied.1) in
          r)
          (sorted there.0 k t before lt))
          (λ (ge : k ≤ there.0).
          ⊎_elim
          (λ (after : k < there.0).
          let above : s.vertex < (get_or ss there.0 t).vertex = past.above there.0 t (omega arith) there.1 in
          let its : (get_or ss there.0 t).vertex ≡ t.vertex = ap (λ (x : Start). x.vertex) here in
          let r : t.rest ≤ s.rest = absurd (omega arith) in
          r)
          (λ (le : there.0 ≤ k).
          let place : there.0 ≡ k = omega arith in
          let one : t ≡ s = sym here ∙ (ap (λ (n : ℕ). get_or ss n t) place ∙ (get_or_default ss k t s lt ∙ sym is)) in
          let r : t.rest ≤ s.rest = omega (arith, ap (λ (x : Start). x.rest) one) in
          r)
          (cases_lt k there.0))
          (cases_lt there.0 k));
    }

later : (fs : List Start) (s : Start) (v : ℕ) → HasStartFrom fs v → HasStartFrom (fs ++ s ∷ []) v
later fs s v h = record { start = h.start; listed = Contains-append_left fs (s ∷ []) h.start h.listed; at = h.at }

pub taken_push : (ss : List Start) (source k : ℕ) (fs now : List Start) (s : Start) → IsSorted ss → k < length ss → s ≡ get_or ss k s → s.vertex ≢ source → IsRunEnd ss k true → now ≡ fs ++ s ∷ [] → IsTaken ss source k fs → IsTaken ss source (k + 1) now
taken_push ss source k fs now s sorted lt is other end more h =
    let past : IsPast ss k s = past_run ss k s sorted lt is end in
    let own : IsKept ss source s = kept_of ss source k s sorted lt is other past in
    subst (λ (l : List Start). IsTaken ss source (k + 1) l) (sym more)
    (record {
      each = (λ f there.
          ⊎_elim
          (λ (before : Contains fs f). h.each f before)
          (λ (same : s ≡ f). subst (λ (x : Start). IsKept ss source x) same own)
          (Contains-push_cases fs s f there));
      every = (λ j d before inside different.
          ⊎_elim
          (λ (less : j < k).
          ⊎_elim
          (λ (has : HasStartFrom fs (get_or ss j d).vertex). inl (later fs s (get_or ss j d).vertex has))
          (λ (pending : IsPending ss k (get_or ss j d).vertex). inl (record {
            start = s;
            listed = Contains-push fs s;
            at = ap (λ (x : Start). x.vertex) is ∙ pending.same s;
          }))
          (h.every j d less inside different))
          (λ (ge : k ≤ j).
          let place : k ≡ j = omega arith in
          inl (record {
            start = s;
            listed = Contains-push fs s;
            at = ap (λ (x : Start). x.vertex) (is ∙ (get_or_default ss k s d lt ∙ ap (λ (n : ℕ). get_or ss n d) place));
          }))
          (cases_lt j k));
      rising = subst (λ (l : List ℕ). IsStrictlyIncreasing l) (sym (map-append (λ (f : Start). f.vertex) fs (s ∷ [])))
          (rising_push (map (λ (f : Start). f.vertex) fs) s.vertex h.rising (λ i inside.
          let within : i < length fs = omega (arith, length-map fs (λ (f : Start). f.vertex)) in
          let its : get_or (map (λ (f : Start). f.vertex) fs) i 0 ≡ (get_or fs i s).vertex = get_or-map (λ (f : Start). f.vertex) fs i s 0 within in
          let up : (get_or fs i s).vertex < (get_or ss k s).vertex = h.below (get_or fs i s) k s (Contains-get_or fs i s within) (omega arith) lt in
          omega (arith, ap (λ (x : Start). x.vertex) is)));
      below = (λ f j d there le inside.
          ⊎_elim
          (λ (before : Contains fs f). h.below f j d before (omega arith) inside)
          (λ (same : s ≡ f). subst (λ (x : Start). x.vertex < (get_or ss j d).vertex) same (past.above j d le inside))
          (Contains-push_cases fs s f there));
    })

pub taken_source : (ss : List Start) (source k : ℕ) (fs now : List Start) (s : Start) → k < length ss → s ≡ get_or ss k s → s.vertex ≡ source → now ≡ fs → IsTaken ss source k fs → IsTaken ss source (k + 1) now
taken_source ss source k fs now s lt is same kept h =
    subst (λ (l : List Start). IsTaken ss source (k + 1) l) (sym kept)
    (record {
      each = h.each;
      every = (λ j d before inside different.
          ⊎_elim
          (λ (less : j < k).
          ⊎_elim
          (λ (has : HasStartFrom fs (get_or ss j d).vertex). inl has)
          (λ (pending : IsPending ss k (get_or ss j d).vertex). absurd (different (sym (pending.same s) ∙ (ap (λ (x : Start). x.vertex) (sym is) ∙ same))))
          (h.every j d less inside different))
          (λ (ge : k ≤ j).
          let place : j ≡ k = omega arith in
          absurd (different (ap (λ (x : Start). x.vertex) (ap (λ (n : ℕ). get_or ss n d) place ∙ (get_or_default ss k d s lt ∙ sym is)) ∙ same)))
          (cases_lt j k));
      rising = h.rising;
      below = (λ f j d there le inside. h.below f j d there (omega arith) inside);
    })

pub taken_same : (ss : List Start) (source k : ℕ) (fs now : List Start) → IsRunEnd ss k false → now ≡ fs → IsTaken ss source k fs → IsTaken ss source (k + 1) now
taken_same ss source k fs now more kept h =
    subst (λ (l : List Start). IsTaken ss source (k + 1) l) (sym kept)
    (record {
      each = h.each;
      every = (λ j d before inside different.
          ⊎_elim
          (λ (less : j < k).
          ⊎_elim
          (λ (has : HasStartFrom fs (get_or ss j d).vertex). inl has)
          (λ (pending : IsPending ss k (get_or ss j d).vertex). inr (record { inside = (more d).0; same = (λ e. (more e).1 ∙ pending.same e) }))
          (h.every j d less inside different))
          (λ (ge : k ≤ j).
          let place : k ≡ j = omega arith in
          inr (record {
            inside = (more d).0;
            same = (λ e. (more e).1 ∙ ap (λ (x : Start). x.vertex) (get_or_default ss k e d (let both : k + 1 < length ss = (more d).0 in omega arith) ∙ ap (λ (n : ℕ). get_or ss n d) place));
          }))
          (cases_lt j k));
      rising = h.rising;
      below = (λ f j d there le inside. h.below f j d there (omega arith) inside);
    })

pub taken_all : (ss : List Start) (source k : ℕ) (fs : List Start) → length ss ≤ k → IsTaken ss source k fs → AreFarthest ss source fs
taken_all ss source k fs ge h =
    record {
      each = h.each;
      every = (λ s there other.
          let here : get_or ss there.0 s ≡ s = there.2 in
          let same : (get_or ss there.0 s).vertex ≡ s.vertex = ap (λ (x : Start). x.vertex) here in
          ⊎_elim
          (λ (has : HasStartFrom fs (get_or ss there.0 s).vertex). subst (λ (n : ℕ). HasStartFrom fs n) same has)
          (λ (pending : IsPending ss k (get_or ss there.0 s).vertex). absurd (let inside : k < length ss = pending.inside in omega arith))
          (h.every there.0 s (let inside : there.0 < length ss = there.1 in omega arith) there.1 (λ e. other (sym same ∙ e))));
      rising = h.rising;
    }

pub farthest_moved : (xs ys : List Start) (source : ℕ) (fs : List Start) → IsPermutation xs ys → AreFarthest ys source fs → AreFarthest xs source fs
farthest_moved xs ys source fs moved h =
    record {
      each = (λ f there.
          let kept = h.each f there in
          record {
            listed = Contains-permutation ys xs f (IsPermutation-sym xs ys moved) kept.listed;
            other = kept.other;
            greatest = (λ s has same. kept.greatest s (Contains-permutation xs ys s moved has) same);
          });
      every = (λ s there other. h.every s (Contains-permutation xs ys s moved there) other);
      rising = h.rising;
    }
