-- Climbs from a rank to the top.
use Rattle.std.proofs.Common.{◌≡◌, ◌≢◌, ◌+◌, ◌<◌, ◌≤◌, ◌⊎◌, ℕ, min, List, [], ◌∷◌, ◌++◌, length, slice_index, set, refl, sym, ap, ◌∙◌, subst, arith, inl, inr, ⊎_elim, get_or-set_same, get_or-set_other}
use Rattle.std.proofs.Math.ListN.{length-set}
use Rattle.std.proofs.lemmas.Bool.{cases_lt}
use Rattle.std.proofs.lemmas.List.{get_or_past}
use Rattle.road_model.proofs.Basics.{same_or_other}
use Rattle.hierarchy_build.specs.declared.links.Links.{Links}
use Rattle.hierarchy_build.specs.Hills.{IsRise, rise_length, HasRise}
use Rattle.hierarchy_build.specs.Runs.{InSpan, IsUp, IsShape}
use Rattle.hierarchy_build.specs.Lengths.{no_link}
use Rattle.hierarchy_build.specs.Links.{links_of, AreLinks}
use Rattle.hierarchy_build.proofs.Hills.{IsRise-push, rise_length-push}
use Rattle.hierarchy_build.proofs.Runs.{head_inside}
use Rattle.hierarchy_build.proofs.Pushes.{lowered, lowered_at, lowered_cases}
use Rattle.hierarchy_query.specs.Climbs.{IsBlank, CanRelax, CanClimb, IsReached, IsRelaxed, Climbing, IsClimbed}

-- the links from x up to the place k have been relaxed
pub record RelaxedSoFar (l : Links) (x k : ℕ) (old new : List ℕ) : Type 0 where
  pub size : length new ≡ length old
  pub falls : (y : ℕ) → slice_index new y ≤ slice_index old y
  pub done : (j : ℕ) → j < k → InSpan l.first x j → slice_index new (slice_index l.head j) ≤ slice_index old x + slice_index l.length j
  pub cases : (y : ℕ) → (slice_index new y ≡ slice_index old y) ⊎ IsReached l x (slice_index old x) y (slice_index new y)

pub RelaxedSoFar-none : (l : Links) (x k : ℕ) (labels : List ℕ) → k ≤ slice_index l.first x → RelaxedSoFar l x k labels labels
RelaxedSoFar-none l x k labels le =
    record {
      size = refl;
      falls = (λ y. omega arith);
      done = (λ j low span. absurd (let a = span.low in omega arith));
      cases = (λ y. inl refl);
    }

pub RelaxedSoFar-more : (n : ℕ) (l : Links) (x k : ℕ) (old new : List ℕ) → CanRelax n l x → length old ≡ n → InSpan l.first x k → RelaxedSoFar l x k old new → RelaxedSoFar l x (k + 1) old (lowered new (slice_index l.head k) (slice_index old x + slice_index l.length k))
RelaxedSoFar-more n l x k old new can size_old span h =
    let inside : slice_index l.head k < n = can.within k span in
    let size_new = h.size in
    let there : slice_index l.head k < length new = omega arith in
    let to : ℕ = slice_index old x + slice_index l.length k in
    record {
      size = length-set new (slice_index l.head k) (min (slice_index new (slice_index l.head k)) (slice_index old x + slice_index l.length k)) ∙ h.size;
      falls = (λ y.
          let was = h.falls y in
          ⊎_elim
          (λ (same : slice_index (lowered new (slice_index l.head k) (slice_index old x + slice_index l.length k)) y ≡ slice_index new y). let r : slice_index (lowered new (slice_index l.head k) (slice_index old x + slice_index l.length k)) y ≤ slice_index old y = omega arith in r)
          (λ (c : (y ≡ slice_index l.head k) × (slice_index (lowered new (slice_index l.head k) (slice_index old x + slice_index l.length k)) y ≡ slice_index old x + slice_index l.length k) × (slice_index old x + slice_index l.length k ≤ slice_index new y)).
          let a = c.1 in let b = c.2 in
          let r : slice_index (lowered new (slice_index l.head k) (slice_index old x + slice_index l.length k)) y ≤ slice_index old y = omega arith in r)
          (lowered_cases new (slice_index l.head k) (slice_index old x + slice_index l.length k) y there));
      done = (λ j low at.
          ⊎_elim
          (λ (before : j < k).
          let was = h.done j before at in
          ⊎_elim
          (λ (same : slice_index (lowered new (slice_index l.head k) (slice_index old x + slice_index l.length k)) (slice_index l.head j) ≡ slice_index new (slice_index l.head j)). let r : slice_index (lowered new (slice_index l.head k) (slice_index old x + slice_index l.length k)) (slice_index l.head j) ≤ slice_index old x + slice_index l.length j = omega arith in r)
          (λ (c : (slice_index l.head j ≡ slice_index l.head k) × (slice_index (lowered new (slice_index l.head k) (slice_index old x + slice_index l.length k)) (slice_index l.head j) ≡ slice_index old x + slice_index l.length k) × (slice_index old x + slice_index l.length k ≤ slice_index new (slice_index l.head j))).
          let a = c.1 in let b = c.2 in
          let r : slice_index (lowered new (slice_index l.head k) (slice_index old x + slice_index l.length k)) (slice_index l.head j) ≤ slice_index old x + slice_index l.length j = omega arith in r)
          (lowered_cases new (slice_index l.head k) (slice_index old x + slice_index l.length k) (slice_index l.head j) there))
          (λ (here : k ≤ j).
          let same : k ≡ j = omega arith in
          subst (λ (i : ℕ). slice_index (lowered new (slice_index l.head k) (slice_index old x + slice_index l.length k)) (slice_index l.head i) ≤ slice_index old x + slice_index l.length i) same
          (lowered_at new (slice_index l.head k) (slice_index old x + slice_index l.length k) there))
          (cases_lt j k));
      cases = (λ y.
          ⊎_elim
          (λ (same : slice_index (lowered new (slice_index l.head k) (slice_index old x + slice_index l.length k)) y ≡ slice_index new y).
          ⊎_elim
          (λ (old' : slice_index new y ≡ slice_index old y).
          let r : (slice_index (lowered new (slice_index l.head k) (slice_index old x + slice_index l.length k)) y ≡ slice_index old y) ⊎ IsReached l x (slice_index old x) y (slice_index (lowered new (slice_index l.head k) (slice_index old x + slice_index l.length k)) y) = inl (same ∙ old') in r)
          (λ (reached : IsReached l x (slice_index old x) y (slice_index new y)).
          let r : (slice_index (lowered new (slice_index l.head k) (slice_index old x + slice_index l.length k)) y ≡ slice_index old y) ⊎ IsReached l x (slice_index old x) y (slice_index (lowered new (slice_index l.head k) (slice_index old x + slice_index l.length k)) y) =
          inr (record { place = reached.place; span = reached.span; is = reached.is; long = same ∙ reached.long }) in r)
          (h.cases y))
          (λ (c : (y ≡ slice_index l.head k) × (slice_index (lowered new (slice_index l.head k) (slice_index old x + slice_index l.length k)) y ≡ slice_index old x + slice_index l.length k) × (slice_index old x + slice_index l.length k ≤ slice_index new y)).
          let r : (slice_index (lowered new (slice_index l.head k) (slice_index old x + slice_index l.length k)) y ≡ slice_index old y) ⊎ IsReached l x (slice_index old x) y (slice_index (lowered new (slice_index l.head k) (slice_index old x + slice_index l.length k)) y) =
          inr (record { place = k; span = span; is = sym c.0; long = c.1 }) in r)
          (lowered_cases new (slice_index l.head k) (slice_index old x + slice_index l.length k) y there));
    }

pub IsRelaxed-all : (l : Links) (x k : ℕ) (old new : List ℕ) → slice_index l.first (x + 1) ≤ k → RelaxedSoFar l x k old new → IsRelaxed l x old new
IsRelaxed-all l x k old new le h =
    record {
      size = h.size;
      falls = h.falls;
      done = (λ j span. h.done j (let high = span.high in omega arith) span);
      cases = h.cases;
    }

-- what stands in the run of x above its parent stands in that of its parent
pub over_parent : (n : ℕ) (first head : List ℕ) (x y : ℕ) → IsShape n first head → x < n → IsUp first head x y → (y ≡ slice_index head (slice_index first x)) ⊎ IsUp first head (slice_index head (slice_index first x)) y
over_parent n first head x y s is_x up =
    let low = up.span.low in
    let high = up.span.high in
    let is = up.is in
    let at : InSpan first x (slice_index first x) = record { low = omega arith; high = omega arith } in
    ⊎_elim
    (λ (rest : slice_index first x < up.place).
    let found : IsUp first head (slice_index head (slice_index first x)) (slice_index head up.place) = s.chordal x (slice_index first x) up.place is_x at up.span rest in
    let r : (y ≡ slice_index head (slice_index first x)) ⊎ IsUp first head (slice_index head (slice_index first x)) y = inr (subst (λ (z : ℕ). IsUp first head (slice_index head (slice_index first x)) z) up.is found) in r)
    (λ (here : up.place ≤ slice_index first x).
    let same : up.place ≡ slice_index first x = omega arith in
    let r : (y ≡ slice_index head (slice_index first x)) ⊎ IsUp first head (slice_index head (slice_index first x)) y = inl (sym up.is ∙ ap (λ (k : ℕ). slice_index head k) same) in r)
    (cases_lt (slice_index first x) up.place)

pub parent_least : (n : ℕ) (first head : List ℕ) (x y : ℕ) → IsShape n first head → x < n → IsUp first head x y → slice_index head (slice_index first x) ≤ y
parent_least n first head x y s is_x up =
    let low = up.span.low in
    let high = up.span.high in
    let at : InSpan first x (slice_index first x) = record { low = omega arith; high = omega arith } in
    let inside : slice_index head (slice_index first x) < n = head_inside n first head x (slice_index first x) s is_x at in
    ⊎_elim
    (λ (same : y ≡ slice_index head (slice_index first x)). let r : slice_index head (slice_index first x) ≤ y = omega arith in r)
    (λ (over : IsUp first head (slice_index head (slice_index first x)) y).
    let above = s.above (slice_index head (slice_index first x)) over.place inside over.span in
    let is = over.is in
    let r : slice_index head (slice_index first x) ≤ y = omega arith in r)
    (over_parent n first head x y s is_x up)

pub up_of_reached : (n : ℕ) (first head : List ℕ) (l : Links) (x from y to : ℕ) → AreLinks n first head l → x < n → IsReached l x from y to → IsUp first head x y
up_of_reached n first head l x from y to links is_x h = subst (λ (z : ℕ). IsUp first head x z) h.is (links.under x h.place is_x h.span)

pub HasRise-push : (n : ℕ) (l : Links) (s x from y to : ℕ) → x < n → IsReached l x from y to → to < no_link → HasRise (links_of n l) s x from → HasRise (links_of n l) s y to
HasRise-push n l s x from y to is_x h real rise =
    let long = h.long in
    let link : links_of n l x y (slice_index l.length h.place) = record { place = h.place; inside = is_x; span = h.span; leads = h.is; long = refl; real = omega arith } in
    record {
      path = rise.path ++ (y, slice_index l.length h.place) ∷ [];
      rise = IsRise-push (links_of n l) rise.path s x y (slice_index l.length h.place) rise.rise link;
      long = omega (arith, rise_length-push rise.path y (slice_index l.length h.place), rise.long);
    }

-- the links from a rank can be relaxed
pub CanRelax-climb : (n : ℕ) (first head : List ℕ) (l : Links) (x : ℕ) → CanClimb n first head l → x < n → CanRelax n l x
CanRelax-climb n first head l x can is_x =
    let size = can.links.size in
    let end = can.links.end in
    let rise = can.links.rising (x + 1) n (omega arith) (omega arith) in
    record {
      rank = omega arith;
      end = omega arith;
      even = can.links.even;
      within = (λ k span.
          let up = can.links.under x k is_x span in
          let inside = head_inside n first head x up.place can.shape is_x up.span in
          let is = up.is in
          omega arith);
      short = can.links.short;
    }

pub Climbing-start : (n : ℕ) (first head : List ℕ) (l : Links) (s : ℕ) (labels : List ℕ) → s < n → IsBlank n labels → Climbing n first head l s s (set labels s 0)
Climbing-start n first head l s labels is_s b =
    let size = b.size in
    let here : slice_index (set labels s 0) s ≡ 0 = get_or-set_same labels s 0 0 (omega arith) in
    let long : length (set labels s 0) ≡ length labels = length-set labels s 0 in
    record {
      size = long ∙ b.size;
      low = (λ y.
          ⊎_elim
          (λ (same : y ≡ s). let is : slice_index (set labels s 0) y ≡ 0 = ap (λ (x : ℕ). slice_index (set labels s 0) x) same ∙ here in let r : slice_index (set labels s 0) y ≤ no_link = omega arith in r)
          (λ (other : y ≢ s).
          let is : slice_index (set labels s 0) y ≡ slice_index labels y = get_or-set_other labels s y 0 0 other in
          ⊎_elim
          (λ (inside : y < n). let none = b.blank y inside in let r : slice_index (set labels s 0) y ≤ no_link = omega arith in r)
          (λ (past : n ≤ y). let none : slice_index labels y ≡ 0 = get_or_past labels y 0 (omega arith) in let r : slice_index (set labels s 0) y ≤ no_link = omega arith in r)
          (cases_lt y n))
          (same_or_other y s));
      start = here;
      late = omega arith;
      inside = is_s;
      walks = (λ y inside real.
          ⊎_elim
          (λ (same : y ≡ s).
          let is : slice_index (set labels s 0) y ≡ 0 = ap (λ (x : ℕ). slice_index (set labels s 0) x) same ∙ here in
          let r : HasRise (links_of n l) s y (slice_index (set labels s 0) y) = record { path = []; rise = sym same; long = sym is } in r)
          (λ (other : y ≢ s).
          let is : slice_index (set labels s 0) y ≡ slice_index labels y = get_or-set_other labels s y 0 0 other in
          let none = b.blank y inside in
          let r : HasRise (links_of n l) s y (slice_index (set labels s 0) y) = absurd (omega arith) in r)
          (same_or_other y s));
      relaxed = (λ y k low span.
          let ne : y ≢ s = (λ e. absurd (omega arith)) in
          let is : slice_index (set labels s 0) y ≡ slice_index labels y = get_or-set_other labels s y 0 0 ne in
          let none = b.blank y (omega arith) in
          ⊎_elim
          (λ (same : slice_index l.head k ≡ s). let e : slice_index (set labels s 0) (slice_index l.head k) ≡ 0 = ap (λ (x : ℕ). slice_index (set labels s 0) x) same ∙ here in let r : slice_index (set labels s 0) (slice_index l.head k) ≤ slice_index (set labels s 0) y + slice_index l.length k = omega arith in r)
          (λ (other : slice_index l.head k ≢ s).
          let e : slice_index (set labels s 0) (slice_index l.head k) ≡ slice_index labels (slice_index l.head k) = get_or-set_other labels s (slice_index l.head k) 0 0 other in
          ⊎_elim
          (λ (inside : slice_index l.head k < n). let blank = b.blank (slice_index l.head k) inside in let r : slice_index (set labels s 0) (slice_index l.head k) ≤ slice_index (set labels s 0) y + slice_index l.length k = omega arith in r)
          (λ (past : n ≤ slice_index l.head k). let blank : slice_index labels (slice_index l.head k) ≡ 0 = get_or_past labels (slice_index l.head k) 0 (omega arith) in let r : slice_index (set labels s 0) (slice_index l.head k) ≤ slice_index (set labels s 0) y + slice_index l.length k = omega arith in r)
          (cases_lt (slice_index l.head k) n))
          (same_or_other (slice_index l.head k) s));
      ahead = (λ y inside lt real.
          let ne : y ≢ s = (λ e. absurd (omega arith)) in
          let is : slice_index (set labels s 0) y ≡ slice_index labels y = get_or-set_other labels s y 0 0 ne in
          let none = b.blank y inside in
          absurd (omega arith));
    }

-- a label above x is in its run, whether it stood before x was relaxed or not
ahead_relaxed : (n : ℕ) (first head : List ℕ) (l : Links) (s x : ℕ) (old new : List ℕ) (y : ℕ) → AreLinks n first head l → Climbing n first head l s x old → IsRelaxed l x old new → y < n → x < y → slice_index new y < no_link → IsUp first head x y
ahead_relaxed n first head l s x old new y links c r inside lt real =
    ⊎_elim
    (λ (same : slice_index new y ≡ slice_index old y). c.ahead y inside lt (omega arith))
    (λ (reached : IsReached l x (slice_index old x) y (slice_index new y)). up_of_reached n first head l x (slice_index old x) y (slice_index new y) links c.inside reached)
    (r.cases y)

-- a label at x or below stays
label_stays : (n : ℕ) (first head : List ℕ) (l : Links) (x : ℕ) (old new : List ℕ) (y : ℕ) → CanClimb n first head l → x < n → IsRelaxed l x old new → y ≤ x → slice_index new y ≡ slice_index old y
label_stays n first head l x old new y can is_x r le =
    ⊎_elim
    (λ (same : slice_index new y ≡ slice_index old y). same)
    (λ (reached : IsReached l x (slice_index old x) y (slice_index new y)).
    let up = up_of_reached n first head l x (slice_index old x) y (slice_index new y) can.links is_x reached in
    let above = can.shape.above x up.place is_x up.span in
    let is = up.is in
    let e : slice_index new y ≡ slice_index old y = absurd (omega arith) in e)
    (r.cases y)

pub Climbing-relaxed : (n : ℕ) (first head : List ℕ) (l : Links) (s x : ℕ) (old new : List ℕ) → CanClimb n first head l → slice_index first x < slice_index first (x + 1) → Climbing n first head l s x old → IsRelaxed l x old new → Climbing n first head l s (slice_index head (slice_index first x)) new
Climbing-relaxed n first head l s x old new can some c r =
    let at : InSpan first x (slice_index first x) = record { low = omega arith; high = some } in
    let above : x < slice_index head (slice_index first x) = can.shape.above x (slice_index first x) c.inside at in
    let late = c.late in
    record {
      size = r.size ∙ c.size;
      low = (λ y. omega (arith, r.falls y, c.low y));
      start = (let f = r.falls s in let z = c.start in omega arith);
      late = omega arith;
      inside = head_inside n first head x (slice_index first x) can.shape c.inside at;
      walks = (λ y inside real.
          ⊎_elim
          (λ (same : slice_index new y ≡ slice_index old y).
          subst (λ (k : ℕ). HasRise (links_of n l) s y k) (sym same) (c.walks y inside (omega arith)))
          (λ (reached : IsReached l x (slice_index old x) y (slice_index new y)).
          let long = reached.long in
          HasRise-push n l s x (slice_index old x) y (slice_index new y) c.inside reached real (c.walks x c.inside (omega arith)))
          (r.cases y));
      relaxed = (λ y k low span.
          ⊎_elim
          (λ (below : y < x).
          let was = c.relaxed y k below span in
          let falls = r.falls (slice_index l.head k) in
          let stays = label_stays n first head l x old new y can c.inside r (omega arith) in
          let e : slice_index new (slice_index l.head k) ≤ slice_index new y + slice_index l.length k = omega arith in e)
          (λ (not_below : x ≤ y).
          ⊎_elim
          (λ (between : x < y).
          let inside : y < n = (let p = head_inside n first head x (slice_index first x) can.shape c.inside at in omega arith) in
          ⊎_elim
          (λ (real : slice_index new y < no_link).
          let up = ahead_relaxed n first head l s x old new y can.links c r inside between real in
          let least = parent_least n first head x y can.shape c.inside up in
          let e : slice_index new (slice_index l.head k) ≤ slice_index new y + slice_index l.length k = absurd (omega arith) in e)
          (λ (none : no_link ≤ slice_index new y).
          let a = r.falls (slice_index l.head k) in
          let b = c.low (slice_index l.head k) in
          let e : slice_index new (slice_index l.head k) ≤ slice_index new y + slice_index l.length k = omega arith in e)
          (cases_lt (slice_index new y) no_link))
          (λ (here : y ≤ x).
          let same : x ≡ y = omega arith in
          let stays = label_stays n first head l x old new x can c.inside r (omega arith) in
          let done = r.done k (subst (λ (z : ℕ). InSpan l.first z k) (sym same) span) in
          let e : slice_index new (slice_index l.head k) ≤ slice_index new x + slice_index l.length k = omega arith in
          subst (λ (z : ℕ). slice_index new (slice_index l.head k) ≤ slice_index new z + slice_index l.length k) same e)
          (cases_lt x y))
          (cases_lt y x));
      ahead = (λ y inside lt real.
          let up = ahead_relaxed n first head l s x old new y can.links c r inside (omega arith) real in
          ⊎_elim
          (λ (same : y ≡ slice_index head (slice_index first x)). let e : IsUp first head (slice_index head (slice_index first x)) y = absurd (omega arith) in e)
          (λ (over : IsUp first head (slice_index head (slice_index first x)) y). over)
          (over_parent n first head x y can.shape c.inside up));
    }

-- at the top every rank is relaxed
relaxed_all : (n : ℕ) (first head : List ℕ) (l : Links) (s x : ℕ) (labels : List ℕ) → CanClimb n first head l → slice_index first (x + 1) ≤ slice_index first x → Climbing n first head l s x labels → (y k : ℕ) → y < n → InSpan l.first y k → slice_index labels (slice_index l.head k) ≤ slice_index labels y + slice_index l.length k
relaxed_all n first head l s x labels can top c y k inside span =
    ⊎_elim
    (λ (below : y < x). c.relaxed y k below span)
    (λ (not_below : x ≤ y).
    ⊎_elim
    (λ (above : x < y).
    ⊎_elim
    (λ (real : slice_index labels y < no_link).
    let up = c.ahead y inside above real in
    let a = up.span.low in
    let b = up.span.high in
    let e : slice_index labels (slice_index l.head k) ≤ slice_index labels y + slice_index l.length k = absurd (omega arith) in e)
    (λ (none : no_link ≤ slice_index labels y). let b = c.low (slice_index l.head k) in let e : slice_index labels (slice_index l.head k) ≤ slice_index labels y + slice_index l.length k = omega arith in e)
    (cases_lt (slice_index labels y) no_link))
    (λ (here : y ≤ x).
    let same : y ≡ x = omega arith in
    let up : IsUp first head x (slice_index l.head k) = can.links.under x k c.inside (subst (λ (z : ℕ). InSpan l.first z k) same span) in
    let a = up.span.low in
    let b = up.span.high in
    let e : slice_index labels (slice_index l.head k) ≤ slice_index labels y + slice_index l.length k = absurd (omega arith) in e)
    (cases_lt x y))
    (cases_lt y x)

label_least : (n : ℕ) (l : Links) (labels : List ℕ) → ((y k : ℕ) → y < n → InSpan l.first y k → slice_index labels (slice_index l.head k) ≤ slice_index labels y + slice_index l.length k) → (p : List (ℕ × ℕ)) (a y : ℕ) → IsRise (links_of n l) a p y → slice_index labels y ≤ slice_index labels a + rise_length p
label_least n l labels all [] a y rise =
    let same : slice_index labels a ≡ slice_index labels y = ap (λ (x : ℕ). slice_index labels x) rise in
    omega arith
label_least n l labels all (e ∷ p) a y rise =
    let link = rise.0 in
    let rest : slice_index labels y ≤ slice_index labels e.0 + rise_length p = label_least n l labels all p e.0 y rise.1 in
    let step = all a link.place link.inside link.span in
    let leads : slice_index labels (slice_index l.head link.place) ≡ slice_index labels e.0 = ap (λ (x : ℕ). slice_index labels x) link.leads in
    let long = link.long in
    omega arith

pub IsClimbed-top : (n : ℕ) (first head : List ℕ) (l : Links) (s x : ℕ) (labels : List ℕ) → CanClimb n first head l → slice_index first (x + 1) ≤ slice_index first x → Climbing n first head l s x labels → IsClimbed n l s labels
IsClimbed-top n first head l s x labels can top c =
    record {
      size = c.size;
      low = c.low;
      walks = c.walks;
      least = (λ p y rise.
          let start = c.start in
          let low : slice_index labels y ≤ slice_index labels s + rise_length p = label_least n l labels (relaxed_all n first head l s x labels can top c) p s y rise in
          omega arith);
    }
