-- Lowering a link to two others.
use Rattle.std.proofs.Common.{◌≡◌, ◌≢◌, ◌+◌, ◌<◌, ◌≤◌, ◌⊎◌, ℕ, min, List, length, slice_index, set, refl, sym, ap, ◌∙◌, subst, arith, inl, inr, ⊎_elim, get_or-set_same, get_or-set_other}
use Rattle.std.proofs.Math.ListN.{length-set}
use Rattle.std.proofs.lemmas.Bool.{cases_lt}
use Rattle.road_model.specs.Graph.{Graph}
use Rattle.road_model.specs.Dist.{HasWalk}
use Rattle.road_model.proofs.Basics.{same_or_other}
use Rattle.hierarchy_build.specs.Runs.{InSpan, IsShape, IsAcross}
use Rattle.hierarchy_build.specs.Lengths.{no_link, CanPush, AreWalks, Falls, Keeps, IsTight}
use Rattle.hierarchy_build.proofs.Hills.{HasWalk-joined}
use Rattle.hierarchy_build.proofs.Runs.{one_run, place_inside, head_inside, beyond_run, across_rises, one_place}

pub Falls-itself : (from : ℕ) (xs : List ℕ) → Falls from xs xs
Falls-itself from xs = record { size = refl; same = (λ k lt. refl); falls = (λ k. omega arith) }

pub Falls-joined : (from : ℕ) (a b c : List ℕ) → Falls from a b → Falls from b c → Falls from a c
Falls-joined from a b c h k =
    record {
      size = k.size ∙ h.size;
      same = (λ i lt. k.same i lt ∙ h.same i lt);
      falls = (λ i. omega (arith, h.falls i, k.falls i));
    }

pub Falls-from : (from low : ℕ) (a b : List ℕ) → low ≤ from → Falls from a b → Falls low a b
Falls-from from low a b le h = record { size = h.size; same = (λ i lt. h.same i (omega arith)); falls = h.falls }

pub Keeps-itself : (n : ℕ) (first head : List ℕ) (from : ℕ) (up down : List ℕ) → Keeps n first head from up down up down
Keeps-itself n first head from up down =
    record { rise = Falls-itself from up; fall = Falls-itself from down; walks = (λ g order h. h) }

pub Keeps-joined : (n : ℕ) (first head : List ℕ) (from : ℕ) (a b a' b' a'' b'' : List ℕ) → Keeps n first head from a b a' b' → Keeps n first head from a' b' a'' b'' → Keeps n first head from a b a'' b''
Keeps-joined n first head from a b a' b' a'' b'' h k =
    record {
      rise = Falls-joined from a a' a'' h.rise k.rise;
      fall = Falls-joined from b b' b'' h.fall k.fall;
      walks = (λ g order w. k.walks g order (h.walks g order w));
    }

pub Keeps-from : (n : ℕ) (first head : List ℕ) (from low : ℕ) (a b a' b' : List ℕ) → low ≤ from → Keeps n first head from a b a' b' → Keeps n first head low a b a' b'
Keeps-from n first head from low a b a' b' le h =
    record { rise = Falls-from from low a a' le h.rise; fall = Falls-from from low b b' le h.fall; walks = h.walks }

pub CanPush-kept : (n : ℕ) (first head : List ℕ) (from : ℕ) (a b a' b' : List ℕ) → CanPush n first head a b → Keeps n first head from a b a' b' → CanPush n first head a' b'
CanPush-kept n first head from a b a' b' can h =
    record {
      shape = can.shape;
      lengths = record {
        up_size = h.rise.size ∙ can.lengths.up_size;
        down_size = h.fall.size ∙ can.lengths.down_size;
        up_low = (λ k. omega (arith, h.rise.falls k, can.lengths.up_low k));
        down_low = (λ k. omega (arith, h.fall.falls k, can.lengths.down_low k));
      };
    }

pub IsTight-kept : (n : ℕ) (first head : List ℕ) (from : ℕ) (a b a' b' : List ℕ) (i j k : ℕ) → Keeps n first head from a b a' b' → i < from → j < from → IsTight a b i j k → IsTight a' b' i j k
IsTight-kept n first head from a b a' b' i j k h is_i is_j t =
    record {
      rise = (let f = h.rise.falls k in let p = h.fall.same i is_i in let q = h.rise.same j is_j in let w = t.rise in omega arith);
      fall = (let f = h.fall.falls k in let p = h.fall.same j is_j in let q = h.rise.same i is_i in let w = t.fall in omega arith);
    }

-- a list with one number lowered
abbrev pub lowered : List ℕ → ℕ → ℕ → List ℕ
lowered xs k to = set xs k (min (slice_index xs k) to)

pub lowered_at : (xs : List ℕ) (k to : ℕ) → k < length xs → slice_index (lowered xs k to) k ≤ to
lowered_at xs k to inside =
    let is : slice_index (lowered xs k to) k ≡ min (slice_index xs k) to = get_or-set_same xs k (min (slice_index xs k) to) 0 inside in
    omega arith

pub lowered_cases : (xs : List ℕ) (k to i : ℕ) → k < length xs → (slice_index (lowered xs k to) i ≡ slice_index xs i) ⊎ ((i ≡ k) × (slice_index (lowered xs k to) i ≡ to) × (to ≤ slice_index xs i))
lowered_cases xs k to i inside =
    ⊎_elim
    (λ (same : i ≡ k).
    let is : slice_index (lowered xs k to) k ≡ min (slice_index xs k) to = get_or-set_same xs k (min (slice_index xs k) to) 0 inside in
    let at : slice_index (lowered xs k to) i ≡ slice_index (lowered xs k to) k = ap (λ (n : ℕ). slice_index (lowered xs k to) n) same in
    let old : slice_index xs i ≡ slice_index xs k = ap (λ (n : ℕ). slice_index xs n) same in
    ⊎_elim
    (λ (lt : slice_index xs k < to).
    let e : slice_index (lowered xs k to) i ≡ slice_index xs i = omega arith in
    let r : (slice_index (lowered xs k to) i ≡ slice_index xs i) ⊎ ((i ≡ k) × (slice_index (lowered xs k to) i ≡ to) × (to ≤ slice_index xs i)) = inl e in r)
    (λ (ge : to ≤ slice_index xs k).
    let e : slice_index (lowered xs k to) i ≡ to = omega arith in
    let l : to ≤ slice_index xs i = omega arith in
    let r : (slice_index (lowered xs k to) i ≡ slice_index xs i) ⊎ ((i ≡ k) × (slice_index (lowered xs k to) i ≡ to) × (to ≤ slice_index xs i)) = inr (same, e, l) in r)
    (cases_lt (slice_index xs k) to))
    (λ (other : i ≢ k).
    let e : slice_index (lowered xs k to) i ≡ slice_index xs i = get_or-set_other xs k i (min (slice_index xs k) to) 0 other in
    let r : (slice_index (lowered xs k to) i ≡ slice_index xs i) ⊎ ((i ≡ k) × (slice_index (lowered xs k to) i ≡ to) × (to ≤ slice_index xs i)) = inl e in r)
    (same_or_other i k)

pub lowered_falls : (from : ℕ) (xs : List ℕ) (k to : ℕ) → k < length xs → from ≤ k → Falls from xs (lowered xs k to)
lowered_falls from xs k to inside le =
    record {
      size = length-set xs k (min (slice_index xs k) to);
      same = (λ i lt. let ne : i ≢ k = (λ e. absurd (omega arith)) in get_or-set_other xs k i (min (slice_index xs k) to) 0 ne);
      falls = (λ i.
          ⊎_elim
          (λ (e : slice_index (lowered xs k to) i ≡ slice_index xs i). let r : slice_index (lowered xs k to) i ≤ slice_index xs i = omega arith in r)
          (λ (e : (i ≡ k) × (slice_index (lowered xs k to) i ≡ to) × (to ≤ slice_index xs i)). let a = e.1 in let b = e.2 in let r : slice_index (lowered xs k to) i ≤ slice_index xs i = omega arith in r)
          (lowered_cases xs k to i inside));
    }

-- an upward link lowered to a length that is that of a walk, if it is one at all
pub rise_lowered_to : (g : Graph) (order : List ℕ) (n : ℕ) (first head up down : List ℕ) (v k to : ℕ) → IsShape n first head → v < n → InSpan first v k → k < length up → (to < no_link → HasWalk g (slice_index order v) (slice_index order (slice_index head k)) to) → AreWalks g order n first head up down → AreWalks g order n first head (lowered up k to) down
rise_lowered_to g order n first head up down v k to s is_v at there new w =
    record {
      rise = (λ a c is_a span real.
          ⊎_elim
          (λ (same : slice_index (lowered up k to) c ≡ slice_index up c).
          let old : HasWalk g (slice_index order a) (slice_index order (slice_index head c)) (slice_index up c) = w.rise a c is_a span (omega arith) in
          subst (λ (x : ℕ). HasWalk g (slice_index order a) (slice_index order (slice_index head c)) x) (sym same) old)
          (λ (case : (c ≡ k) × (slice_index (lowered up k to) c ≡ to) × (to ≤ slice_index up c)).
          let is = case.1 in
          let rank : v ≡ a = one_run n first head v a k s is_v is_a at (subst (λ (x : ℕ). InSpan first a x) case.0 span) in
          subst (λ (x : ℕ). HasWalk g (slice_index order a) (slice_index order (slice_index head c)) x) (sym case.1)
          (subst (λ (x : ℕ). HasWalk g (slice_index order x) (slice_index order (slice_index head c)) to) rank
          (subst (λ (x : ℕ). HasWalk g (slice_index order v) (slice_index order (slice_index head x)) to) (sym case.0) (new (omega arith)))))
          (lowered_cases up k to c there));
      fall = w.fall;
    }

-- and a downward one
pub fall_lowered_to : (g : Graph) (order : List ℕ) (n : ℕ) (first head up down : List ℕ) (v k to : ℕ) → IsShape n first head → v < n → InSpan first v k → k < length down → (to < no_link → HasWalk g (slice_index order (slice_index head k)) (slice_index order v) to) → AreWalks g order n first head up down → AreWalks g order n first head up (lowered down k to)
fall_lowered_to g order n first head up down v k to s is_v at there new w =
    record {
      rise = w.rise;
      fall = (λ a c is_a span real.
          ⊎_elim
          (λ (same : slice_index (lowered down k to) c ≡ slice_index down c).
          let old : HasWalk g (slice_index order (slice_index head c)) (slice_index order a) (slice_index down c) = w.fall a c is_a span (omega arith) in
          subst (λ (x : ℕ). HasWalk g (slice_index order (slice_index head c)) (slice_index order a) x) (sym same) old)
          (λ (case : (c ≡ k) × (slice_index (lowered down k to) c ≡ to) × (to ≤ slice_index down c)).
          let is = case.1 in
          let rank : v ≡ a = one_run n first head v a k s is_v is_a at (subst (λ (x : ℕ). InSpan first a x) case.0 span) in
          subst (λ (x : ℕ). HasWalk g (slice_index order (slice_index head c)) (slice_index order a) x) (sym case.1)
          (subst (λ (x : ℕ). HasWalk g (slice_index order (slice_index head c)) (slice_index order x) to) rank
          (subst (λ (x : ℕ). HasWalk g (slice_index order (slice_index head x)) (slice_index order v) to) (sym case.0) (new (omega arith)))))
          (lowered_cases down k to c there));
    }

-- lowered to the way over a lower rank
rise_lowered : (g : Graph) (order : List ℕ) (n : ℕ) (first head up down : List ℕ) (v i j k : ℕ) → CanPush n first head up down → v < n → InSpan first v i → InSpan first v j → IsAcross first head i j k → AreWalks g order n first head up down → AreWalks g order n first head (lowered up k (slice_index down i + slice_index up j)) down
rise_lowered g order n first head up down v i j k can is_v at_i at_j across w =
    let inside : slice_index head i < n = head_inside n first head v i can.shape is_v at_i in
    let there : k < length up = omega (arith, place_inside n first head (slice_index head i) k can.shape inside across.span, can.lengths.up_size) in
    rise_lowered_to g order n first head up down (slice_index head i) k (slice_index down i + slice_index up j) can.shape inside across.span there
    (λ real.
    subst (λ (x : ℕ). HasWalk g (slice_index order (slice_index head i)) (slice_index order x) (slice_index down i + slice_index up j)) (sym across.is)
    (HasWalk-joined g (slice_index order (slice_index head i)) (slice_index order v) (slice_index order (slice_index head j)) (slice_index down i) (slice_index up j) (w.fall v i is_v at_i (omega arith)) (w.rise v j is_v at_j (omega arith))))
    w

fall_lowered : (g : Graph) (order : List ℕ) (n : ℕ) (first head up down : List ℕ) (v i j k to : ℕ) → CanPush n first head up down → v < n → InSpan first v i → InSpan first v j → IsAcross first head i j k → to ≡ slice_index down j + slice_index up i → AreWalks g order n first head up down → AreWalks g order n first head up (lowered down k to)
fall_lowered g order n first head up down v i j k to can is_v at_i at_j across is_sum w =
    let inside : slice_index head i < n = head_inside n first head v i can.shape is_v at_i in
    let there : k < length down = omega (arith, place_inside n first head (slice_index head i) k can.shape inside across.span, can.lengths.down_size) in
    fall_lowered_to g order n first head up down (slice_index head i) k to can.shape inside across.span there
    (λ real.
    subst (λ (x : ℕ). HasWalk g (slice_index order (slice_index head k)) (slice_index order (slice_index head i)) x) (sym is_sum)
    (subst (λ (x : ℕ). HasWalk g (slice_index order x) (slice_index order (slice_index head i)) (slice_index down j + slice_index up i)) (sym across.is)
    (HasWalk-joined g (slice_index order (slice_index head j)) (slice_index order v) (slice_index order (slice_index head i)) (slice_index down j) (slice_index up i) (w.fall v j is_v at_j (omega arith)) (w.rise v i is_v at_i (omega arith)))))
    w

-- both links of a triangle
pub Keeps-lowered : (n : ℕ) (first head up down : List ℕ) (v i j k : ℕ) → CanPush n first head up down → v < n → InSpan first v i → InSpan first v j → IsAcross first head i j k → Keeps n first head (slice_index first (v + 1)) up down (lowered up k (slice_index down i + slice_index up j)) (lowered down k (slice_index down j + slice_index up i))
Keeps-lowered n first head up down v i j k can is_v at_i at_j across =
    let inside : slice_index head i < n = head_inside n first head v i can.shape is_v at_i in
    let place : k < length head = place_inside n first head (slice_index head i) k can.shape inside across.span in
    let beyond : slice_index first (v + 1) ≤ slice_index first (slice_index head i) = beyond_run n first head v i can.shape is_v at_i in
    let late : slice_index first (v + 1) ≤ k = omega (arith, across.span.low) in
    let there : k < length up = omega (arith, can.lengths.up_size) in
    let there' : k < length down = omega (arith, can.lengths.down_size) in
    let ne : i ≢ k = (let high = at_i.high in λ e. absurd (omega arith)) in
    let read : slice_index (lowered up k (slice_index down i + slice_index up j)) i ≡ slice_index up i = get_or-set_other up k i (min (slice_index up k) (slice_index down i + slice_index up j)) 0 ne in
    let rise : Falls (slice_index first (v + 1)) up (lowered up k (slice_index down i + slice_index up j)) = lowered_falls (slice_index first (v + 1)) up k (slice_index down i + slice_index up j) there late in
    let can' : CanPush n first head (lowered up k (slice_index down i + slice_index up j)) down = record {
      shape = can.shape;
      lengths = record {
        up_size = rise.size ∙ can.lengths.up_size;
        down_size = can.lengths.down_size;
        up_low = (λ c. omega (arith, rise.falls c, can.lengths.up_low c));
        down_low = can.lengths.down_low;
      };
    } in
    record {
      rise = rise;
      fall = lowered_falls (slice_index first (v + 1)) down k (slice_index down j + slice_index up i) there' late;
      walks = (λ g order w.
          fall_lowered g order n first head (lowered up k (slice_index down i + slice_index up j)) down v i j k (slice_index down j + slice_index up i) can' is_v at_i at_j across (ap (λ (x : ℕ). slice_index down j + x) (sym read))
          (rise_lowered g order n first head up down v i j k can is_v at_i at_j across w));
    }

pub IsTight-lowered : (n : ℕ) (first head up down : List ℕ) (v i j k : ℕ) → CanPush n first head up down → v < n → InSpan first v i → InSpan first v j → IsAcross first head i j k → IsTight (lowered up k (slice_index down i + slice_index up j)) (lowered down k (slice_index down j + slice_index up i)) i j k
IsTight-lowered n first head up down v i j k can is_v at_i at_j across =
    let inside : slice_index head i < n = head_inside n first head v i can.shape is_v at_i in
    let place : k < length head = place_inside n first head (slice_index head i) k can.shape inside across.span in
    let there : k < length up = omega (arith, can.lengths.up_size) in
    let there' : k < length down = omega (arith, can.lengths.down_size) in
    let kept = Keeps-lowered n first head up down v i j k can is_v at_i at_j across in
    record {
      rise = (let a = lowered_at up k (slice_index down i + slice_index up j) there in let p = kept.fall.same i at_i.high in let q = kept.rise.same j at_j.high in omega arith);
      fall = (let a = lowered_at down k (slice_index down j + slice_index up i) there' in let p = kept.fall.same j at_j.high in let q = kept.rise.same i at_i.high in omega arith);
    }

-- the row of the place i in the run of v, before the place j
pub record RowSoFar (n : ℕ) (first head up down up' down' : List ℕ) (v i j at : ℕ) : Type 0 where
  pub beyond : slice_index first (slice_index head i) ≤ at
  pub next : (b c : ℕ) → j ≤ b → InSpan first v b → IsAcross first head i b c → at ≤ c
  pub keeps : Keeps n first head (slice_index first (v + 1)) up down up' down'
  pub tight : (b c : ℕ) → b < j → i < b → InSpan first v b → IsAcross first head i b c → IsTight up' down' i b c

pub RowSoFar-none : (n : ℕ) (first head up down : List ℕ) (v i at : ℕ) → at ≡ slice_index first (slice_index head i) → RowSoFar n first head up down up down v i (i + 1) at
RowSoFar-none n first head up down v i at is =
    record {
      beyond = omega arith;
      next = (λ b c le span across. omega (arith, across.span.low));
      keeps = Keeps-itself n first head (slice_index first (v + 1)) up down;
      tight = (λ b c lt gt span across. absurd (omega arith));
    }

pub RowSoFar-more : (n : ℕ) (first head up down up' down' : List ℕ) (v i j at k : ℕ) → CanPush n first head up down → v < n → InSpan first v i → InSpan first v j → i < j → RowSoFar n first head up down up' down' v i j at → IsAcross first head i j k → RowSoFar n first head up down (lowered up' k (slice_index down' i + slice_index up' j)) (lowered down' k (slice_index down' j + slice_index up' i)) v i (j + 1) (k + 1)
RowSoFar-more n first head up down up' down' v i j at k can is_v at_i at_j lt row across =
    let can' : CanPush n first head up' down' = CanPush-kept n first head (slice_index first (v + 1)) up down up' down' can row.keeps in
    let more = Keeps-lowered n first head up' down' v i j k can' is_v at_i at_j across in
    let tight = IsTight-lowered n first head up' down' v i j k can' is_v at_i at_j across in
    let inside : slice_index head i < n = head_inside n first head v i can.shape is_v at_i in
    record {
      beyond = omega (arith, across.span.low);
      next = (λ b c le span over. across_rises n first head v i j b k c can.shape is_v at_i at_j span (omega arith) across over);
      keeps = Keeps-joined n first head (slice_index first (v + 1)) up down up' down' (lowered up' k (slice_index down' i + slice_index up' j)) (lowered down' k (slice_index down' j + slice_index up' i)) row.keeps more;
      tight = (λ b c low gt span over.
          ⊎_elim
          (λ (old : b < j). IsTight-kept n first head (slice_index first (v + 1)) up' down' (lowered up' k (slice_index down' i + slice_index up' j)) (lowered down' k (slice_index down' j + slice_index up' i)) i b c more at_i.high span.high (row.tight b c old gt span over))
          (λ (new : j ≤ b).
          let same : j ≡ b = omega arith in
          let leads : slice_index head k ≡ slice_index head c = across.is ∙ ap (λ (x : ℕ). slice_index head x) same ∙ sym over.is in
          let place : k ≡ c = one_place n first head (slice_index head i) k c can.shape inside across.span over.span leads in
          subst (λ (x : ℕ). IsTight (lowered up' k (slice_index down' i + slice_index up' j)) (lowered down' k (slice_index down' j + slice_index up' i)) i b x) place
          (subst (λ (x : ℕ). IsTight (lowered up' k (slice_index down' i + slice_index up' j)) (lowered down' k (slice_index down' j + slice_index up' i)) i x k) same tight))
          (cases_lt b j));
    }
