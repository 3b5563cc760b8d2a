-- Places and runs of a shape.
use Rattle.std.proofs.Common.{◌≡◌, ◌+◌, ◌<◌, ◌≤◌, ℕ, List, length, slice_index, ap, arith, ⊎_elim}
use Rattle.std.proofs.lemmas.Bool.{cases_lt}
use Rattle.hierarchy_build.specs.Runs.{InSpan, IsUp, IsShape, IsAcross, HasPlace}

-- two runs share no place
pub one_run : (n : ℕ) (first head : List ℕ) (v w k : ℕ) → IsShape n first head → v < n → w < n → InSpan first v k → InSpan first w k → v ≡ w
one_run n first head v w k s is_v is_w a b =
    ⊎_elim
    (λ (lt : v < w).
    let over : slice_index first (v + 1) ≤ slice_index first w = s.rising (v + 1) w (omega arith) (omega arith) in
    let r : v ≡ w = absurd (omega arith) in r)
    (λ (ge : w ≤ v).
    ⊎_elim
    (λ (gt : w < v).
    let over : slice_index first (w + 1) ≤ slice_index first v = s.rising (w + 1) v (omega arith) (omega arith) in
    let r : v ≡ w = absurd (omega arith) in r)
    (λ (le : v ≤ w). let r : v ≡ w = omega arith in r)
    (cases_lt w v))
    (cases_lt v w)

-- in a run the places rise with their ranks
pub places_rise : (n : ℕ) (first head : List ℕ) (v j k : ℕ) → IsShape n first head → v < n → InSpan first v j → InSpan first v k → slice_index head j < slice_index head k → j < k
places_rise n first head v j k s is_v a b lt =
    ⊎_elim
    (λ (low : j < k). low)
    (λ (ge : k ≤ j).
    ⊎_elim
    (λ (gt : k < j).
    let turned : slice_index head k < slice_index head j = s.ascending v k j is_v b a gt in
    let r : j < k = absurd (omega arith) in r)
    (λ (le : j ≤ k).
    let same : j ≡ k = omega arith in
    let equal : slice_index head j ≡ slice_index head k = ap (λ (n : ℕ). slice_index head n) same in
    let r : j < k = absurd (omega arith) in r)
    (cases_lt k j))
    (cases_lt j k)

-- and a rank stands there once
pub one_place : (n : ℕ) (first head : List ℕ) (v j k : ℕ) → IsShape n first head → v < n → InSpan first v j → InSpan first v k → slice_index head j ≡ slice_index head k → j ≡ k
one_place n first head v j k s is_v a b same =
    ⊎_elim
    (λ (lt : j < k).
    let rise : slice_index head j < slice_index head k = s.ascending v j k is_v a b lt in
    let r : j ≡ k = absurd (omega arith) in r)
    (λ (ge : k ≤ j).
    ⊎_elim
    (λ (gt : k < j).
    let rise : slice_index head k < slice_index head j = s.ascending v k j is_v b a gt in
    let r : j ≡ k = absurd (omega arith) in r)
    (λ (le : j ≤ k). let r : j ≡ k = omega arith in r)
    (cases_lt k j))
    (cases_lt j k)

pub place_inside : (n : ℕ) (first head : List ℕ) (v k : ℕ) → IsShape n first head → v < n → InSpan first v k → k < length head
place_inside n first head v k s is_v a =
    let over : slice_index first (v + 1) ≤ slice_index first n = s.rising (v + 1) n (omega arith) (omega arith) in
    let end = s.end in
    omega arith

pub head_inside : (n : ℕ) (first head : List ℕ) (v k : ℕ) → IsShape n first head → v < n → InSpan first v k → slice_index head k < n
head_inside n first head v k s is_v a = s.within k (place_inside n first head v k s is_v a)

-- the run of a higher neighbour comes later
pub beyond_run : (n : ℕ) (first head : List ℕ) (v i : ℕ) → IsShape n first head → v < n → InSpan first v i → slice_index first (v + 1) ≤ slice_index first (slice_index head i)
beyond_run n first head v i s is_v a =
    let above : v < slice_index head i = s.above v i is_v a in
    let inside : slice_index head i < n = head_inside n first head v i s is_v a in
    s.rising (v + 1) (slice_index head i) (omega arith) (omega arith)

-- the place that joins two of a run: it is there, from any place on that isn't past it
pub place_across : (n : ℕ) (first head : List ℕ) (v i j at : ℕ) → IsShape n first head → v < n → InSpan first v i → InSpan first v j → i < j → ((k : ℕ) → IsAcross first head i j k → at ≤ k) → HasPlace head at (slice_index head j)
place_across n first head v i j at s is_v a b lt next =
    let there : IsUp first head (slice_index head i) (slice_index head j) = s.chordal v i j is_v a b lt in
    let across : IsAcross first head i j there.place = record { span = there.span; is = there.is } in
    record {
      place = there.place;
      late = next there.place across;
      inside = place_inside n first head (slice_index head i) there.place s (head_inside n first head v i s is_v a) there.span;
      is = there.is;
    }

pub across_found : (n : ℕ) (first head : List ℕ) (v i j at k : ℕ) → IsShape n first head → v < n → InSpan first v i → InSpan first v j → i < j → slice_index first (slice_index head i) ≤ at → at ≤ k → slice_index head k ≡ slice_index head j → ((c : ℕ) → at ≤ c → slice_index head c ≡ slice_index head j → k ≤ c) → ((c : ℕ) → IsAcross first head i j c → at ≤ c) → IsAcross first head i j k
across_found n first head v i j at k s is_v a b lt beyond late found earliest next =
    let there : IsUp first head (slice_index head i) (slice_index head j) = s.chordal v i j is_v a b lt in
    let across : IsAcross first head i j there.place = record { span = there.span; is = there.is } in
    let low : k ≤ there.place = earliest there.place (next there.place across) there.is in
    record { span = record { low = omega arith; high = omega (arith, there.span.high) }; is = found }

-- the next one lies after it
pub across_rises : (n : ℕ) (first head : List ℕ) (v i j b k c : ℕ) → IsShape n first head → v < n → InSpan first v i → InSpan first v j → InSpan first v b → j < b → IsAcross first head i j k → IsAcross first head i b c → k + 1 ≤ c
across_rises n first head v i j b k c s is_v at_i at_j at_b lt x y =
    let rise : slice_index head j < slice_index head b = s.ascending v j b is_v at_j at_b lt in
    let heads : slice_index head k < slice_index head c = omega (arith, x.is, y.is) in
    let less : k < c = places_rise n first head (slice_index head i) k c s (head_inside n first head v i s is_v at_i) x.span y.span heads in
    omega arith
