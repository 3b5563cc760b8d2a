-- Lowering the links from one rank to ways over another of its run.
use Rattle.std.proofs.Common.{◌≡◌, ◌≢◌, ◌+◌, ◌<◌, ◌≤◌, ℕ, min, List, length, slice_index, refl, sym, ap, ◌∙◌, subst, arith, ⊎_elim, get_or-set_other}
use Rattle.std.proofs.lemmas.Bool.{cases_lt}
use Rattle.road_model.specs.Graph.{Graph}
use Rattle.road_model.specs.Dist.{HasWalk}
use Rattle.hierarchy_build.specs.Runs.{InSpan, IsShape, IsAcross}
use Rattle.hierarchy_build.specs.Lengths.{no_link, CanPush, AreWalks, Falls, Keeps, Pulls, IsBeaten, AreBeaten, RunIsBeaten}
use Rattle.hierarchy_build.proofs.Hills.{HasWalk-joined}
use Rattle.hierarchy_build.proofs.Runs.{one_place, place_inside, head_inside, beyond_run, across_rises}
use Rattle.hierarchy_build.proofs.Pushes.{lowered, lowered_at, lowered_falls, rise_lowered_to, fall_lowered_to, Falls-joined, Keeps-itself, Keeps-joined, Keeps-from, CanPush-kept}

-- a triangle of v: the places i and j of its run, and x, which joins their ranks
record Triangle (n : ℕ) (first head : List ℕ) (v i j x : ℕ) : Type 0 where
  rank : v < n
  lower : InSpan first v i
  higher : InSpan first v j
  over : slice_index head i < n
  across : IsAcross first head i j x

far_rise : (g : Graph) (order : List ℕ) (n : ℕ) (first head up down : List ℕ) (v i j x : ℕ) → Triangle n first head v i j x → AreWalks g order n first head up down → slice_index up i + slice_index up x < no_link → HasWalk g (slice_index order v) (slice_index order (slice_index head j)) (slice_index up i + slice_index up x)
far_rise g order n first head up down v i j x t w real =
    subst (λ (z : ℕ). HasWalk g (slice_index order v) (slice_index order z) (slice_index up i + slice_index up x)) t.across.is
    (HasWalk-joined g (slice_index order v) (slice_index order (slice_index head i)) (slice_index order (slice_index head x)) (slice_index up i) (slice_index up x) (w.rise v i t.rank t.lower (omega arith)) (w.rise (slice_index head i) x t.over t.across.span (omega arith)))

far_fall : (g : Graph) (order : List ℕ) (n : ℕ) (first head up down : List ℕ) (v i j x : ℕ) → Triangle n first head v i j x → AreWalks g order n first head up down → slice_index down x + slice_index down i < no_link → HasWalk g (slice_index order (slice_index head j)) (slice_index order v) (slice_index down x + slice_index down i)
far_fall g order n first head up down v i j x t w real =
    subst (λ (z : ℕ). HasWalk g (slice_index order z) (slice_index order v) (slice_index down x + slice_index down i)) t.across.is
    (HasWalk-joined g (slice_index order (slice_index head x)) (slice_index order (slice_index head i)) (slice_index order v) (slice_index down x) (slice_index down i) (w.fall (slice_index head i) x t.over t.across.span (omega arith)) (w.fall v i t.rank t.lower (omega arith)))

near_rise : (g : Graph) (order : List ℕ) (n : ℕ) (first head up down : List ℕ) (v i j x : ℕ) → Triangle n first head v i j x → AreWalks g order n first head up down → slice_index up j + slice_index down x < no_link → HasWalk g (slice_index order v) (slice_index order (slice_index head i)) (slice_index up j + slice_index down x)
near_rise g order n first head up down v i j x t w real =
    HasWalk-joined g (slice_index order v) (slice_index order (slice_index head j)) (slice_index order (slice_index head i)) (slice_index up j) (slice_index down x) (w.rise v j t.rank t.higher (omega arith))
    (subst (λ (z : ℕ). HasWalk g (slice_index order z) (slice_index order (slice_index head i)) (slice_index down x)) t.across.is (w.fall (slice_index head i) x t.over t.across.span (omega arith)))

near_fall : (g : Graph) (order : List ℕ) (n : ℕ) (first head up down : List ℕ) (v i j x : ℕ) → Triangle n first head v i j x → AreWalks g order n first head up down → slice_index up x + slice_index down j < no_link → HasWalk g (slice_index order (slice_index head i)) (slice_index order v) (slice_index up x + slice_index down j)
near_fall g order n first head up down v i j x t w real =
    HasWalk-joined g (slice_index order (slice_index head i)) (slice_index order (slice_index head j)) (slice_index order v) (slice_index up x) (slice_index down j)
    (subst (λ (z : ℕ). HasWalk g (slice_index order (slice_index head i)) (slice_index order z) (slice_index up x)) t.across.is (w.rise (slice_index head i) x t.over t.across.span (omega arith)))
    (w.fall v j t.rank t.higher (omega arith))

-- one number lowered, by an equation
falls_to : (from : ℕ) (xs ys : List ℕ) (k to : ℕ) → k < length xs → from ≤ k → ys ≡ lowered xs k to → Falls from xs ys
falls_to from xs ys k to there le is = subst (λ (l : List ℕ). Falls from xs l) (sym is) (lowered_falls from xs k to there le)

lowered_to : (xs ys : List ℕ) (k to : ℕ) → k < length xs → ys ≡ lowered xs k to → slice_index ys k ≤ to
lowered_to xs ys k to there is = subst (λ (l : List ℕ). slice_index l k ≤ to) (sym is) (lowered_at xs k to there)

unlowered : (xs ys : List ℕ) (k to i : ℕ) → i ≢ k → ys ≡ lowered xs k to → slice_index ys i ≡ slice_index xs i
unlowered xs ys k to i other is = ap (λ (l : List ℕ). slice_index l i) is ∙ get_or-set_other xs k i (min (slice_index xs k) to) 0 other

rise_to : (g : Graph) (order : List ℕ) (n : ℕ) (first head up down up' : List ℕ) (v k to : ℕ) → IsShape n first head → v < n → InSpan first v k → k < length up → up' ≡ lowered up k to → (to < no_link → HasWalk g (slice_index order v) (slice_index order (slice_index head k)) to) → AreWalks g order n first head up down → AreWalks g order n first head up' down
rise_to g order n first head up down up' v k to s is_v at there is new w =
    subst (λ (l : List ℕ). AreWalks g order n first head l down) (sym is) (rise_lowered_to g order n first head up down v k to s is_v at there new w)

fall_to : (g : Graph) (order : List ℕ) (n : ℕ) (first head up down down' : List ℕ) (v k to : ℕ) → IsShape n first head → v < n → InSpan first v k → k < length down → down' ≡ lowered down k to → (to < no_link → HasWalk g (slice_index order (slice_index head k)) (slice_index order v) to) → AreWalks g order n first head up down → AreWalks g order n first head up down'
fall_to g order n first head up down down' v k to s is_v at there is new w =
    subst (λ (l : List ℕ). AreWalks g order n first head up l) (sym is) (fall_lowered_to g order n first head up down v k to s is_v at there new w)

pub Pulls-itself : (n : ℕ) (first head : List ℕ) (v : ℕ) (up down : List ℕ) → Pulls n first head v up down up down
Pulls-itself n first head v up down =
    record { keeps = Keeps-itself n first head (slice_index first v) up down; rise_after = (λ k late. refl); fall_after = (λ k late. refl) }

pub Pulls-joined : (n : ℕ) (first head : List ℕ) (v : ℕ) (up down a b c d : List ℕ) → Pulls n first head v up down a b → Pulls n first head v a b c d → Pulls n first head v up down c d
Pulls-joined n first head v up down a b c d h k =
    record {
      keeps = Keeps-joined n first head (slice_index first v) up down a b c d h.keeps k.keeps;
      rise_after = (λ i late. k.rise_after i late ∙ h.rise_after i late);
      fall_after = (λ i late. k.fall_after i late ∙ h.fall_after i late);
    }

-- the place that joins two of the run of v lies past it
pub across_late : (n : ℕ) (first head : List ℕ) (v i j x : ℕ) → IsShape n first head → v < n → InSpan first v i → IsAcross first head i j x → slice_index first (v + 1) ≤ x
across_late n first head v i j x s is_v at across = omega (arith, beyond_run n first head v i s is_v at, across.span.low)

pub IsBeaten-kept : (n : ℕ) (first head : List ℕ) (v : ℕ) (up down a b c d : List ℕ) (i j x : ℕ) → Pulls n first head v a b c d → slice_index first (v + 1) ≤ x → IsBeaten up down a b i j x → IsBeaten up down c d i j x
IsBeaten-kept n first head v up down a b c d i j x p late h =
    let rise = p.rise_after x late in
    let fall = p.fall_after x late in
    let up_i = p.keeps.rise.falls i in
    let up_j = p.keeps.rise.falls j in
    let down_i = p.keeps.fall.falls i in
    let down_j = p.keeps.fall.falls j in
    record {
      far_rise = omega (arith, h.far_rise);
      far_fall = omega (arith, h.far_fall);
      near_rise = omega (arith, h.near_rise);
      near_fall = omega (arith, h.near_fall);
    }

pub IsBeaten-from : (from : ℕ) (up down a b c d : List ℕ) (i j x : ℕ) → Falls from up a → Falls from down b → IsBeaten a b c d i j x → IsBeaten up down c d i j x
IsBeaten-from from up down a b c d i j x rise fall h =
    record {
      far_rise = omega (arith, h.far_rise, rise.falls i);
      far_fall = omega (arith, h.far_fall, fall.falls i);
      near_rise = omega (arith, h.near_rise, rise.falls j);
      near_fall = omega (arith, h.near_fall, fall.falls j);
    }

-- the links of one triangle: a and b when the far ones were lowered, c and d when the near ones were
record Pulled (n : ℕ) (first head : List ℕ) (v : ℕ) (up down c d : List ℕ) (i j x : ℕ) : Type 0 where
  pulls : Pulls n first head v up down c d
  beaten : IsBeaten up down c d i j x

pulled : (n : ℕ) (first head up down a b c d : List ℕ) (v i j x : ℕ) → CanPush n first head up down → Triangle n first head v i j x → a ≡ lowered up j (slice_index up i + slice_index up x) → b ≡ lowered down j (slice_index down x + slice_index down i) → c ≡ lowered a i (slice_index up j + slice_index down x) → d ≡ lowered b i (slice_index up x + slice_index down j) → Pulled n first head v up down c d i j x
pulled n first head up down a b c d v i j x can t is_a is_b is_c is_d =
    let place_i : i < length head = place_inside n first head v i can.shape t.rank t.lower in
    let place_j : j < length head = place_inside n first head v j can.shape t.rank t.higher in
    let low_i = t.lower.low in
    let low_j = t.higher.low in
    let high_i = t.lower.high in
    let high_j = t.higher.high in
    let in_up : j < length up = omega (arith, can.lengths.up_size) in
    let in_down : j < length down = omega (arith, can.lengths.down_size) in
    let rise : Falls (slice_index first v) up a = falls_to (slice_index first v) up a j (slice_index up i + slice_index up x) in_up low_j is_a in
    let fall : Falls (slice_index first v) down b = falls_to (slice_index first v) down b j (slice_index down x + slice_index down i) in_down low_j is_b in
    let in_a : i < length a = omega (arith, can.lengths.up_size, rise.size) in
    let in_b : i < length b = omega (arith, can.lengths.down_size, fall.size) in
    let rise' : Falls (slice_index first v) a c = falls_to (slice_index first v) a c i (slice_index up j + slice_index down x) in_a low_i is_c in
    let fall' : Falls (slice_index first v) b d = falls_to (slice_index first v) b d i (slice_index up x + slice_index down j) in_b low_i is_d in
    let rise_after : (k : ℕ) → slice_index first (v + 1) ≤ k → slice_index c k ≡ slice_index up k =
    (λ k late.
    let not_i : k ≢ i = (λ e. absurd (omega arith)) in
    let not_j : k ≢ j = (λ e. absurd (omega arith)) in
    unlowered a c i (slice_index up j + slice_index down x) k not_i is_c ∙ unlowered up a j (slice_index up i + slice_index up x) k not_j is_a) in
    let fall_after : (k : ℕ) → slice_index first (v + 1) ≤ k → slice_index d k ≡ slice_index down k =
    (λ k late.
    let not_i : k ≢ i = (λ e. absurd (omega arith)) in
    let not_j : k ≢ j = (λ e. absurd (omega arith)) in
    unlowered b d i (slice_index up x + slice_index down j) k not_i is_d ∙ unlowered down b j (slice_index down x + slice_index down i) k not_j is_b) in
    let late : slice_index first (v + 1) ≤ x = across_late n first head v i j x can.shape t.rank t.lower t.across in
    let up_x = rise_after x late in
    let down_x = fall_after x late in
    record {
      pulls = record {
        keeps = record {
          rise = Falls-joined (slice_index first v) up a c rise rise';
          fall = Falls-joined (slice_index first v) down b d fall fall';
          walks = (λ g order w.
              fall_to g order n first head c b d v i (slice_index up x + slice_index down j) can.shape t.rank t.lower in_b is_d (near_fall g order n first head up down v i j x t w)
              (rise_to g order n first head a b c v i (slice_index up j + slice_index down x) can.shape t.rank t.lower in_a is_c (near_rise g order n first head up down v i j x t w)
              (fall_to g order n first head a down b v j (slice_index down x + slice_index down i) can.shape t.rank t.higher in_down is_b (far_fall g order n first head up down v i j x t w)
              (rise_to g order n first head up down a v j (slice_index up i + slice_index up x) can.shape t.rank t.higher in_up is_a (far_rise g order n first head up down v i j x t w) w))));
        };
        rise_after = rise_after;
        fall_after = fall_after;
      };
      beaten = record {
        far_rise = omega (arith, lowered_to up a j (slice_index up i + slice_index up x) in_up is_a, rise'.falls j);
        far_fall = omega (arith, lowered_to down b j (slice_index down x + slice_index down i) in_down is_b, fall'.falls j);
        near_rise = omega (arith, lowered_to a c i (slice_index up j + slice_index down x) in_a is_c);
        near_fall = omega (arith, lowered_to b d i (slice_index up x + slice_index down j) in_b is_d);
      };
    }

-- the row of the place i in the run of v, before the place j
pub record PulledSoFar (n : ℕ) (first head up down up' down' : List ℕ) (v i j at : ℕ) : Type 0 where
  pub late : slice_index first (slice_index head i) ≤ at
  pub next : (b c : ℕ) → j ≤ b → InSpan first v b → IsAcross first head i b c → at ≤ c
  pub pulls : Pulls n first head v up down up' down'
  pub beaten : (b x : ℕ) → b < j → InSpan first v b → i < b → IsAcross first head i b x → IsBeaten up down up' down' i b x

pub PulledSoFar-none : (n : ℕ) (first head up down : List ℕ) (v i at : ℕ) → at ≡ slice_index first (slice_index head i) → PulledSoFar n first head up down up down v i (i + 1) at
PulledSoFar-none n first head up down v i at is =
    record {
      late = omega arith;
      next = (λ b c le span across. omega (arith, across.span.low));
      pulls = Pulls-itself n first head v up down;
      beaten = (λ b x lt span gt across. absurd (omega arith));
    }

pub PulledSoFar-more : (n : ℕ) (first head up down up' down' a b c d : List ℕ) (v i j at x : ℕ) → CanPush n first head up down → v < n → InSpan first v i → InSpan first v j → i < j → PulledSoFar n first head up down up' down' v i j at → IsAcross first head i j x → a ≡ lowered up' j (slice_index up' i + slice_index up' x) → b ≡ lowered down' j (slice_index down' x + slice_index down' i) → c ≡ lowered a i (slice_index up' j + slice_index down' x) → d ≡ lowered b i (slice_index up' x + slice_index down' j) → PulledSoFar n first head up down c d v i (j + 1) (x + 1)
PulledSoFar-more n first head up down up' down' a b c d v i j at x can is_v at_i at_j lt row across is_a is_b is_c is_d =
    let over : slice_index head i < n = head_inside n first head v i can.shape is_v at_i in
    let t : Triangle n first head v i j x = record { rank = is_v; lower = at_i; higher = at_j; over = over; across = across } in
    let can' : CanPush n first head up' down' = CanPush-kept n first head (slice_index first v) up down up' down' can row.pulls.keeps in
    let more : Pulled n first head v up' down' c d i j x = pulled n first head up' down' a b c d v i j x can' t is_a is_b is_c is_d in
    record {
      late = omega (arith, across.span.low);
      next = (λ e f le span other. across_rises n first head v i j e x f can.shape is_v at_i at_j span (omega arith) across other);
      pulls = Pulls-joined n first head v up down up' down' c d row.pulls more.pulls;
      beaten = (λ e y low span gt other.
          ⊎_elim
          (λ (old : e < j). IsBeaten-kept n first head v up down up' down' c d i e y more.pulls (across_late n first head v i e y can.shape is_v at_i other) (row.beaten e y old span gt other))
          (λ (new : j ≤ e).
          let same : j ≡ e = omega arith in
          let leads : slice_index head x ≡ slice_index head y = across.is ∙ ap (λ (z : ℕ). slice_index head z) same ∙ sym other.is in
          let place : x ≡ y = one_place n first head (slice_index head i) x y can.shape over across.span other.span leads in
          let here : IsBeaten up down c d i j x = IsBeaten-from (slice_index first v) up down up' down' c d i j x row.pulls.keeps.rise row.pulls.keeps.fall more.beaten in
          subst (λ (z : ℕ). IsBeaten up down c d i e z) place (subst (λ (z : ℕ). IsBeaten up down c d i z x) same here))
          (cases_lt e j));
    }

-- a run is beaten from the lengths before it was pulled on
pub RunIsBeaten-kept : (n : ℕ) (first head : List ℕ) (v i : ℕ) (up down a b c d : List ℕ) → IsShape n first head → v < n → InSpan first v i → Pulls n first head v a b c d → RunIsBeaten first head v i up down a b → RunIsBeaten first head v i up down c d
RunIsBeaten-kept n first head v i up down a b c d s is_v at p h = λ j x span lt across. IsBeaten-kept n first head v up down a b c d i j x p (across_late n first head v i j x s is_v at across) (h j x span lt across)

pub RunIsBeaten-from : (from : ℕ) (first head : List ℕ) (v i : ℕ) (up down a b c d : List ℕ) → Falls from up a → Falls from down b → RunIsBeaten first head v i a b c d → RunIsBeaten first head v i up down c d
RunIsBeaten-from from first head v i up down a b c d rise fall h = λ j x span lt across. IsBeaten-from from up down a b c d i j x rise fall (h j x span lt across)

-- the runs from v on, when that of v is pulled after those above it
pub AreBeaten-more : (n : ℕ) (first head : List ℕ) (v : ℕ) (up down a b c d : List ℕ) → IsShape n first head → v < n → Keeps n first head (slice_index first (v + 1)) up down a b → Pulls n first head v a b c d → AreBeaten n first head (v + 1) up down a b → ((i : ℕ) → InSpan first v i → RunIsBeaten first head v i a b c d) → AreBeaten n first head v up down c d
AreBeaten-more n first head v up down a b c d s is_v keeps p h run = λ w i j x le is_w at_i at_j lt across.
    ⊎_elim
    (λ (old : v < w).
    let past : slice_index first (v + 1) ≤ slice_index first w = s.rising (v + 1) w (omega arith) (omega arith) in
    let further : slice_index first (w + 1) ≤ x = across_late n first head w i j x s is_w at_i across in
    let rise : slice_index first w ≤ slice_index first (w + 1) = s.rising w (w + 1) (omega arith) (omega arith) in
    IsBeaten-kept n first head v up down a b c d i j x p (omega arith) (h w i j x (omega arith) is_w at_i at_j lt across))
    (λ (new : w ≤ v).
    let same : w ≡ v = omega arith in
    let here : InSpan first v i = subst (λ (z : ℕ). InSpan first z i) same at_i in
    let there : InSpan first v j = subst (λ (z : ℕ). InSpan first z j) same at_j in
    IsBeaten-from (slice_index first (v + 1)) up down a b c d i j x keeps.rise keeps.fall (run i here j x there lt across))
    (cases_lt v w)

-- the same, by the rank w that comes next
pub AreBeaten-next : (n : ℕ) (first head : List ℕ) (v w : ℕ) (up down a b c d : List ℕ) → IsShape n first head → w ≡ v + 1 → w ≤ n → Keeps n first head (slice_index first w) up down a b → Pulls n first head v a b c d → AreBeaten n first head w up down a b → ((i : ℕ) → InSpan first v i → RunIsBeaten first head v i a b c d) → AreBeaten n first head v up down c d
AreBeaten-next n first head v w up down a b c d s is inside keeps p h run =
    AreBeaten-more n first head v up down a b c d s (omega arith)
    (subst (λ (x : ℕ). Keeps n first head (slice_index first x) up down a b) is keeps) p
    (subst (λ (x : ℕ). AreBeaten n first head x up down a b) is h) run

pub Keeps-next : (n : ℕ) (first head : List ℕ) (v w : ℕ) (up down a b c d : List ℕ) → IsShape n first head → w ≡ v + 1 → w ≤ n → Keeps n first head (slice_index first w) up down a b → Pulls n first head v a b c d → Keeps n first head (slice_index first v) up down c d
Keeps-next n first head v w up down a b c d s is inside keeps p =
    let rise : slice_index first v ≤ slice_index first w = s.rising v w (omega arith) inside in
    Keeps-joined n first head (slice_index first v) up down a b c d (Keeps-from n first head (slice_index first w) (slice_index first v) up down a b rise keeps) p.keeps

-- by what the code read
pub AreBeaten-read : (n' n : ℕ) (first' first head' head a up b down c best_up d best_down : List ℕ) → n' ≡ n → first' ≡ first → head' ≡ head → a ≡ up → b ≡ down → c ≡ best_up → d ≡ best_down → AreBeaten n' first' head' 0 a b c d → AreBeaten n first head 0 up down best_up best_down
AreBeaten-read n' n first' first head' head a up b down c best_up d best_down is_n is_first is_head is_a is_b is_c is_d h =
    let h₁ : AreBeaten n first' head' 0 a b c d = subst (λ (x : ℕ). AreBeaten x first' head' 0 a b c d) is_n h in
    let h₂ : AreBeaten n first head' 0 a b c d = subst (λ (l : List ℕ). AreBeaten n l head' 0 a b c d) is_first h₁ in
    let h₃ : AreBeaten n first head 0 a b c d = subst (λ (l : List ℕ). AreBeaten n first l 0 a b c d) is_head h₂ in
    let h₄ : AreBeaten n first head 0 up b c d = subst (λ (l : List ℕ). AreBeaten n first head 0 l b c d) is_a h₃ in
    let h₅ : AreBeaten n first head 0 up down c d = subst (λ (l : List ℕ). AreBeaten n first head 0 up l c d) is_b h₄ in
    let h₆ : AreBeaten n first head 0 up down best_up d = subst (λ (l : List ℕ). AreBeaten n first head 0 up down l d) is_c h₅ in
    subst (λ (l : List ℕ). AreBeaten n first head 0 up down best_up l) is_d h₆
