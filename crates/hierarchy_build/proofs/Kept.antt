-- Links written out one after another.
use Rattle.std.proofs.Common.{◌≡◌, ◌+◌, ◌<◌, ◌≤◌, ℕ, List, [], ◌∷◌, ◌++◌, length, slice_index, refl, sym, ap, ◌∙◌, subst, arith, ⊎_elim, length-append}
use Rattle.std.proofs.Math.Seq.{get_or-append_seam}
use Rattle.std.proofs.lemmas.Bool.{cases_lt}
use Rattle.std.proofs.lemmas.List.{get_or_append_left, get_or_past}
use Rattle.hierarchy_build.specs.declared.links.Links.{Links}
use Rattle.hierarchy_build.specs.Runs.{InSpan}
use Rattle.hierarchy_build.specs.Lengths.{no_link, LinkAt}
use Rattle.hierarchy_build.specs.Links.{Stands, Stays, LeftAt, IsAdded, KeptSoFar, AreKept}

at_old : (xs : List ℕ) (x k : ℕ) → k < length xs → slice_index (xs ++ x ∷ []) k ≡ slice_index xs k
at_old xs x k inside = get_or_append_left xs (x ∷ []) 0 k inside

at_end : (xs : List ℕ) (x k : ℕ) → k ≡ length xs → slice_index (xs ++ x ∷ []) k ≡ x
at_end xs x k is = ap (λ (i : ℕ). slice_index (xs ++ x ∷ []) i) is ∙ get_or-append_seam xs x [] 0

one_more : (xs : List ℕ) (x : ℕ) → length (xs ++ x ∷ []) ≡ length xs + 1
one_more xs x = omega (arith, length-append xs (x ∷ []))

Stays-wider : (head full thinned : List ℕ) (from to to' b x : ℕ) → to ≤ to' → Stays head full thinned from to b x → Stays head full thinned from to' b x
Stays-wider head full thinned from to to' b x le h =
    let s = h.stands in
    record { stands = record { place = s.place; late = s.late; early = (let low = s.early in omega arith); leads = s.leads; long = s.long }; least = h.least }

pub IsAdded-none : (head full thinned : List ℕ) (from : ℕ) (l : Links) → length l.length ≡ length l.head → ((k : ℕ) → slice_index l.length k < no_link) → IsAdded head full thinned from from l l
IsAdded-none head full thinned from l even short =
    record {
      first = refl;
      even = even;
      more = omega arith;
      few = omega arith;
      heads = (λ k inside. refl);
      lengths = (λ k inside. refl);
      short = short;
      only = (λ k late early. absurd (omega arith));
      all = (λ k late early real same. absurd (omega arith));
    }

-- the link at the place k stays out
pub IsAdded-skipped : (head full thinned : List ℕ) (from k : ℕ) (old new : Links) → (slice_index full k < no_link → slice_index thinned k ≡ slice_index full k → ⊥) → IsAdded head full thinned from k old new → IsAdded head full thinned from (k + 1) old new
IsAdded-skipped head full thinned from k old new out h =
    record {
      first = h.first;
      even = h.even;
      more = h.more;
      few = (let few = h.few in omega arith);
      heads = h.heads;
      lengths = h.lengths;
      short = h.short;
      only = (λ i late early. Stays-wider head full thinned from k (k + 1) (slice_index new.head i) (slice_index new.length i) (omega arith) (h.only i late early));
      all = (λ i late early real same.
          ⊎_elim
          (λ (before : i < k). h.all i late before real same)
          (λ (here : k ≤ i).
          let is : i ≡ k = omega arith in
          absurd (out (subst (λ (j : ℕ). slice_index full j < no_link) is real) (subst (λ (j : ℕ). slice_index thinned j ≡ slice_index full j) is same)))
          (cases_lt i k));
    }

-- or is added
pub IsAdded-more : (head full thinned : List ℕ) (from k : ℕ) (old new next : Links) → from ≤ k → slice_index full k < no_link → slice_index thinned k ≡ slice_index full k → next.first ≡ new.first → next.head ≡ new.head ++ slice_index head k ∷ [] → next.length ≡ new.length ++ slice_index full k ∷ [] → IsAdded head full thinned from k old new → IsAdded head full thinned from (k + 1) old next
IsAdded-more head full thinned from k old new next start real least is_first is_head is_length h =
    let even = h.even in
    let more = h.more in
    let few = h.few in
    let long_head : length next.head ≡ length new.head + 1 = ap (λ (l : List ℕ). length l) is_head ∙ one_more new.head (slice_index head k) in
    let long_length : length next.length ≡ length new.length + 1 = ap (λ (l : List ℕ). length l) is_length ∙ one_more new.length (slice_index full k) in
    let head_at : (i : ℕ) → i < length new.head → slice_index next.head i ≡ slice_index new.head i = (λ i inside. ap (λ (l : List ℕ). slice_index l i) is_head ∙ at_old new.head (slice_index head k) i inside) in
    let length_at : (i : ℕ) → i < length new.length → slice_index next.length i ≡ slice_index new.length i = (λ i inside. ap (λ (l : List ℕ). slice_index l i) is_length ∙ at_old new.length (slice_index full k) i inside) in
    let head_end : (i : ℕ) → i ≡ length new.head → slice_index next.head i ≡ slice_index head k = (λ i is. ap (λ (l : List ℕ). slice_index l i) is_head ∙ at_end new.head (slice_index head k) i is) in
    let length_end : (i : ℕ) → i ≡ length new.length → slice_index next.length i ≡ slice_index full k = (λ i is. ap (λ (l : List ℕ). slice_index l i) is_length ∙ at_end new.length (slice_index full k) i is) in
    record {
      first = is_first ∙ h.first;
      even = omega arith;
      more = omega arith;
      few = omega arith;
      heads = (λ i inside. head_at i (omega arith) ∙ h.heads i inside);
      lengths = (λ i inside. length_at i (omega arith) ∙ h.lengths i inside);
      short = (λ i.
          ⊎_elim
          (λ (was : i < length new.length). let e = length_at i was in let s = h.short i in let r : slice_index next.length i < no_link = omega arith in r)
          (λ (late : length new.length ≤ i).
          ⊎_elim
          (λ (past : length new.length < i). let e : slice_index next.length i ≡ 0 = get_or_past next.length i 0 (omega arith) in let r : slice_index next.length i < no_link = omega arith in r)
          (λ (here : i ≤ length new.length). let e = length_end i (omega arith) in let r : slice_index next.length i < no_link = omega arith in r)
          (cases_lt (length new.length) i))
          (cases_lt i (length new.length)));
      only = (λ i late early.
          ⊎_elim
          (λ (was : i < length new.head).
          let t = h.only i late was in
          let s = t.stands in
          let long : slice_index new.length i ≡ slice_index next.length i = sym (length_at i (omega arith)) in
          let stands : Stands head full from (k + 1) (slice_index next.head i) (slice_index next.length i) = record { place = s.place; late = s.late; early = (let low = s.early in omega arith); leads = s.leads ∙ sym (head_at i was); long = s.long ∙ long } in
          let r : Stays head full thinned from (k + 1) (slice_index next.head i) (slice_index next.length i) = record { stands = stands; least = t.least ∙ long } in r)
          (λ (here : length new.head ≤ i).
          let long : slice_index full k ≡ slice_index next.length i = sym (length_end i (omega arith)) in
          let stands : Stands head full from (k + 1) (slice_index next.head i) (slice_index next.length i) = record { place = k; late = start; early = omega arith; leads = sym (head_end i (omega arith)); long = long } in
          let r : Stays head full thinned from (k + 1) (slice_index next.head i) (slice_index next.length i) = record { stands = stands; least = least ∙ long } in r)
          (cases_lt i (length new.head)));
      all = (λ i late early real' same.
          ⊎_elim
          (λ (before : i < k).
          let s = h.all i late before real' same in
          let low = s.early in
          let r : Stands next.head next.length (length old.head) (length next.head) (slice_index head i) (slice_index full i) = record { place = s.place; late = s.late; early = omega arith; leads = head_at s.place s.early ∙ s.leads; long = length_at s.place (omega arith) ∙ s.long } in r)
          (λ (here : k ≤ i).
          let is : k ≡ i = omega arith in
          let r : Stands next.head next.length (length old.head) (length next.head) (slice_index head i) (slice_index full i) = record { place = length new.head; late = more; early = omega arith; leads = head_end (length new.head) refl ∙ ap (λ (j : ℕ). slice_index head j) is; long = length_end (length new.head) (sym even) ∙ ap (λ (j : ℕ). slice_index full j) is } in r)
          (cases_lt i k));
    }

pub KeptSoFar-none : (n : ℕ) (first head full thinned : List ℕ) (l : Links) → l.first ≡ 0 ∷ [] → l.head ≡ [] → l.length ≡ [] → KeptSoFar n 0 first head full thinned l
KeptSoFar-none n first head full thinned l is_first is_head is_length =
    let none_head : length l.head ≡ 0 = ap (λ (xs : List ℕ). length xs) is_head in
    let none_length : length l.length ≡ 0 = ap (λ (xs : List ℕ). length xs) is_length in
    let begin : slice_index l.first 0 ≡ 0 = ap (λ (xs : List ℕ). slice_index xs 0) is_first in
    record {
      size = ap (λ (xs : List ℕ). length xs) is_first;
      begin = begin;
      end = omega arith;
      even = omega arith;
      few = omega arith;
      rising = (λ u w le low. let same : u ≡ w = omega arith in let e : slice_index l.first u ≡ slice_index l.first w = ap (λ (x : ℕ). slice_index l.first x) same in omega arith);
      short = (λ k. let e : slice_index l.length k ≡ 0 = get_or_past l.length k 0 (omega arith) in omega arith);
      only = (λ u k low span. absurd (omega arith));
      all = (λ u k low span real same. absurd (omega arith));
    }

-- the run of v is added, and then its end
pub KeptSoFar-more : (n v : ℕ) (first head full thinned : List ℕ) (old new next : Links) → v < n → KeptSoFar n v first head full thinned old → IsAdded head full thinned (slice_index first v) (slice_index first (v + 1)) old new → next.first ≡ new.first ++ length new.head ∷ [] → next.head ≡ new.head → next.length ≡ new.length → KeptSoFar n (v + 1) first head full thinned next
KeptSoFar-more n v first head full thinned old new next is_v h a is_first is_head is_length =
    let size = h.size in
    let end = h.end in
    let even = a.even in
    let more = a.more in
    let few = a.few in
    let few' = h.few in
    let firsts : next.first ≡ old.first ++ length new.head ∷ [] = is_first ∙ ap (λ (l : List ℕ). l ++ length new.head ∷ []) a.first in
    let first_at : (u : ℕ) → u ≤ v → slice_index next.first u ≡ slice_index old.first u = (λ u le. ap (λ (l : List ℕ). slice_index l u) firsts ∙ at_old old.first (length new.head) u (omega arith)) in
    let first_end : slice_index next.first (v + 1) ≡ length new.head = ap (λ (l : List ℕ). slice_index l (v + 1)) firsts ∙ at_end old.first (length new.head) (v + 1) (omega arith) in
    let head_same : (i : ℕ) → slice_index next.head i ≡ slice_index new.head i = (λ i. ap (λ (l : List ℕ). slice_index l i) is_head) in
    let length_same : (i : ℕ) → slice_index next.length i ≡ slice_index new.length i = (λ i. ap (λ (l : List ℕ). slice_index l i) is_length) in
    let inside : (u k : ℕ) → u < v → InSpan old.first u k → k < length old.head = (λ u k lt span. let high = span.high in let rise = h.rising (u + 1) v (omega arith) (omega arith) in omega arith) in
    record {
      size = ap (λ (l : List ℕ). length l) firsts ∙ one_more old.first (length new.head) ∙ ap (λ (x : ℕ). x + 1) size;
      begin = first_at 0 (omega arith) ∙ h.begin;
      end = first_end ∙ ap (λ (l : List ℕ). length l) (sym is_head);
      even = ap (λ (l : List ℕ). length l) is_length ∙ a.even ∙ ap (λ (l : List ℕ). length l) (sym is_head);
      few = (let e : length next.head ≡ length new.head = ap (λ (l : List ℕ). length l) is_head in omega arith);
      rising = (λ u w le low.
          ⊎_elim
          (λ (was : w < v + 1).
          let e = first_at u (omega arith) in
          let f = first_at w (omega arith) in
          let rise = h.rising u w le (omega arith) in
          let r : slice_index next.first u ≤ slice_index next.first w = omega arith in r)
          (λ (top : v + 1 ≤ w).
          let same : w ≡ v + 1 = omega arith in
          let f : slice_index next.first w ≡ slice_index next.first (v + 1) = ap (λ (x : ℕ). slice_index next.first x) same in
          ⊎_elim
          (λ (under : u < v + 1).
          let e = first_at u (omega arith) in
          let rise = h.rising u v (omega arith) (omega arith) in
          let r : slice_index next.first u ≤ slice_index next.first w = omega arith in r)
          (λ (over : v + 1 ≤ u).
          let both : u ≡ w = omega arith in
          let e : slice_index next.first u ≡ slice_index next.first w = ap (λ (x : ℕ). slice_index next.first x) both in
          let r : slice_index next.first u ≤ slice_index next.first w = omega arith in r)
          (cases_lt u (v + 1)))
          (cases_lt w (v + 1)));
      short = (λ k. let e = length_same k in let s = a.short k in omega arith);
      only = (λ u k low span.
          let s_low = span.low in
          let s_high = span.high in
          ⊎_elim
          (λ (was : u < v).
          let e = first_at u (omega arith) in
          let f = first_at (u + 1) (omega arith) in
          let at : InSpan old.first u k = record { low = omega arith; high = omega arith } in
          let i = inside u k was at in
          let link = h.only u k was at in
          let r : LeftAt n first head full thinned u (slice_index next.head k) (slice_index next.length k) =
          subst (λ (x : ℕ). LeftAt n first head full thinned u (slice_index next.head k) x) (sym (length_same k ∙ a.lengths k i))
          (subst (λ (b : ℕ). LeftAt n first head full thinned u b (slice_index old.length k)) (sym (head_same k ∙ a.heads k i)) link) in r)
          (λ (top : v ≤ u).
          let same : v ≡ u = omega arith in
          let from : slice_index next.first v ≡ slice_index next.first u = ap (λ (x : ℕ). slice_index next.first x) same in
          let to : slice_index next.first (v + 1) ≡ slice_index next.first (u + 1) = ap (λ (x : ℕ). slice_index next.first (x + 1)) same in
          let e = first_at v (omega arith) in
          let t = a.only k (omega arith) (omega arith) in
          let s = t.stands in
          let short = a.short k in
          let link : LinkAt n first head full v (slice_index next.head k) (slice_index next.length k) = record { place = s.place; inside = is_v; span = record { low = s.late; high = s.early }; leads = s.leads ∙ sym (head_same k); long = s.long ∙ sym (length_same k); real = (let f = length_same k in omega arith) } in
          let left : LeftAt n first head full thinned v (slice_index next.head k) (slice_index next.length k) = record { link = link; least = t.least ∙ sym (length_same k) } in
          subst (λ (x : ℕ). LeftAt n first head full thinned x (slice_index next.head k) (slice_index next.length k)) same left)
          (cases_lt u v));
      all = (λ u k low span real same.
          ⊎_elim
          (λ (was : u < v).
          let link = h.all u k was span real same in
          let e = first_at u (omega arith) in
          let f = first_at (u + 1) (omega arith) in
          let s_low = link.span.low in
          let s_high = link.span.high in
          let i = inside u link.place was link.span in
          let r : LinkAt n next.first next.head next.length u (slice_index head k) (slice_index full k) =
          record { place = link.place; inside = link.inside; span = record { low = omega arith; high = omega arith }; leads = head_same link.place ∙ a.heads link.place i ∙ link.leads; long = length_same link.place ∙ a.lengths link.place i ∙ link.long; real = link.real } in r)
          (λ (top : v ≤ u).
          let at : v ≡ u = omega arith in
          let here : InSpan first v k = subst (λ (x : ℕ). InSpan first x k) (sym at) span in
          let s = a.all k here.low here.high real same in
          let s_late = s.late in
          let s_early = s.early in
          let e = first_at v (omega arith) in
          let link : LinkAt n next.first next.head next.length v (slice_index head k) (slice_index full k) =
          record { place = s.place; inside = is_v; span = record { low = omega arith; high = omega arith }; leads = head_same s.place ∙ s.leads; long = length_same s.place ∙ s.long; real = real } in
          subst (λ (x : ℕ). LinkAt n next.first next.head next.length x (slice_index head k) (slice_index full k)) at link)
          (cases_lt u v));
    }

-- by what the code read
pub KeptSoFar-read : (n v end : ℕ) (first head full thinned first' head' : List ℕ) (old new next : Links) → first' ≡ first → head' ≡ head → end ≡ length new.head → v < n → KeptSoFar n v first head full thinned old → IsAdded head' full thinned (slice_index first' v) (slice_index first' (v + 1)) old new → next.first ≡ new.first ++ end ∷ [] → next.head ≡ new.head → next.length ≡ new.length → KeptSoFar n (v + 1) first head full thinned next
KeptSoFar-read n v end first head full thinned first' head' old new next is_firsts is_heads is_end is_v h a is_first is_head is_length =
    KeptSoFar-more n v first head full thinned old new next is_v h
    (subst (λ (l : List ℕ). IsAdded l full thinned (slice_index first v) (slice_index first (v + 1)) old new) is_heads
    (subst (λ (l : List ℕ). IsAdded head' full thinned (slice_index l v) (slice_index l (v + 1)) old new) is_firsts a))
    (is_first ∙ ap (λ (x : ℕ). new.first ++ x ∷ []) is_end)
    is_head is_length

pub AreKept-all : (n v : ℕ) (first head full thinned : List ℕ) (l : Links) → v ≡ n → KeptSoFar n v first head full thinned l → AreKept n first head full thinned l
AreKept-all n v first head full thinned l is_n so_far =
    let h : KeptSoFar n n first head full thinned l = subst (λ (x : ℕ). KeptSoFar n x first head full thinned l) is_n so_far in
    record {
      links = record {
        size = h.size;
        begin = h.begin;
        end = h.end;
        even = h.even;
        rising = h.rising;
        under = (λ v k is_v span. let link = (h.only v k is_v span).link in record { place = link.place; span = link.span; is = link.leads });
        short = h.short;
      };
      only = (λ a b x link.
          subst (λ (y : ℕ). LeftAt n first head full thinned a b y) link.long
          (subst (λ (z : ℕ). LeftAt n first head full thinned a z (slice_index l.length link.place)) link.leads (h.only a link.place link.inside link.span)));
      all = h.all;
    }
