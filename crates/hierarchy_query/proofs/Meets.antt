-- Chains of parents, the meeting of two climbs, and the least hill.
use Rattle.std.proofs.Common.{◌≡◌, ◌≢◌, ◌+◌, ◌<◌, ◌≤◌, ◌⊎◌, ℕ, min, List, [], ◌∷◌, length, slice_index, set, sym, ap, ◌∙◌, subst, arith, inl, inr, ⊎_elim, get_or-set_same, get_or-set_other}
use Rattle.std.proofs.Math.ListN.{length-set}
use Rattle.std.proofs.lemmas.Bool.{cases_lt}
use Rattle.road_model.proofs.Basics.{same_or_other}
use Rattle.hierarchy_build.specs.declared.links.Links.{Links}
use Rattle.hierarchy_build.specs.Hills.{IsRise, rise_length}
use Rattle.hierarchy_build.specs.Runs.{InSpan, IsUp, IsShape}
use Rattle.hierarchy_build.specs.Lengths.{no_link}
use Rattle.hierarchy_build.specs.Links.{links_of}
use Rattle.hierarchy_build.proofs.Runs.{head_inside}
use Rattle.hierarchy_query.specs.Climbs.{IsBlank, CanClimb, IsClimbed, IsPath, Above, CanMeet, IsMeeting, IsLeastHill}
use Rattle.hierarchy_query.proofs.Climbs.{over_parent}

along_parent : (n : ℕ) (first head : List ℕ) (x : ℕ) (p : List ℕ) (y : ℕ) → IsShape n first head → x < n → IsPath first head x p y → (x ≡ y) ⊎ Above first head (slice_index head (slice_index first x)) y
along_parent n first head x [] y s is_x is = inl is
along_parent n first head x (z ∷ p) y s is_x is =
    ⊎_elim
    (λ (same : z ≡ slice_index head (slice_index first x)).
    let r : (x ≡ y) ⊎ Above first head (slice_index head (slice_index first x)) y = inr (record { path = p; is = subst (λ (w : ℕ). IsPath first head w p y) same is.1 }) in r)
    (λ (over : IsUp first head (slice_index head (slice_index first x)) z).
    let r : (x ≡ y) ⊎ Above first head (slice_index head (slice_index first x)) y = inr (record { path = z ∷ p; is = (over, is.1) }) in r)
    (over_parent n first head x z s is_x is.0)

pub above_parent : (n : ℕ) (first head : List ℕ) (x y : ℕ) → IsShape n first head → x < n → Above first head x y → (x ≡ y) ⊎ Above first head (slice_index head (slice_index first x)) y
above_parent n first head x y s is_x h = along_parent n first head x h.path y s is_x h.is

-- nothing else is above the top
along_top : (first head : List ℕ) (x : ℕ) (p : List ℕ) (y : ℕ) → slice_index first (x + 1) ≤ slice_index first x → IsPath first head x p y → x ≡ y
along_top first head x [] y top is = is
along_top first head x (z ∷ p) y top is =
    let low = is.0.span.low in
    let high = is.0.span.high in
    absurd (omega arith)

above_top : (first head : List ℕ) (x y : ℕ) → slice_index first (x + 1) ≤ slice_index first x → Above first head x y → x ≡ y
above_top first head x y top h = along_top first head x h.path y top h.is

up_of_link : (n : ℕ) (first head : List ℕ) (l : Links) (a b x : ℕ) → CanClimb n first head l → links_of n l a b x → IsUp first head a b
up_of_link n first head l a b x can link = subst (λ (z : ℕ). IsUp first head a z) link.leads (can.links.under a link.place link.inside link.span)

-- by what the code read
pub CanClimb-read : (n : ℕ) (first head first' head' : List ℕ) (l : Links) → first' ≡ first → head' ≡ head → CanClimb n first head l → CanClimb n first' head' l
CanClimb-read n first head first' head' l is_first is_head can =
    subst (λ (xs : List ℕ). CanClimb n xs head' l) (sym is_first) (subst (λ (xs : List ℕ). CanClimb n first xs l) (sym is_head) can)

path_of_rise : (n : ℕ) (first head : List ℕ) (l : Links) (p : List (ℕ × ℕ)) (s y : ℕ) → CanClimb n first head l → s < n → IsRise (links_of n l) s p y → Above first head s y
path_of_rise n first head l [] s y can is_s rise = record { path = []; is = rise }
path_of_rise n first head l (e ∷ p) s y can is_s rise =
    let up = up_of_link n first head l s e.0 e.1 can rise.0 in
    let rest = path_of_rise n first head l p e.0 y can (let inside = head_inside n first head s up.place can.shape is_s up.span in let is = up.is in omega arith) rise.1 in
    record { path = e.0 ∷ rest.path; is = (up, rest.is) }

pub above_of_climbed : (n : ℕ) (first head : List ℕ) (l : Links) (s : ℕ) (labels : List ℕ) → CanClimb n first head l → s < n → IsClimbed n l s labels → (y : ℕ) → y < n → slice_index labels y < no_link → Above first head s y
above_of_climbed n first head l s labels can is_s c y inside real =
    let rise = c.walks y inside real in
    path_of_rise n first head l rise.path s y can is_s rise.rise

pub blank_or_above : (n : ℕ) (first head : List ℕ) (l : Links) (s : ℕ) (labels : List ℕ) → CanClimb n first head l → s < n → IsClimbed n l s labels → (y : ℕ) → y < n → (slice_index labels y ≡ no_link) ⊎ Above first head s y
blank_or_above n first head l s labels can is_s c y inside =
    ⊎_elim
    (λ (real : slice_index labels y < no_link). let r : (slice_index labels y ≡ no_link) ⊎ Above first head s y = inr (above_of_climbed n first head l s labels can is_s c y inside real) in r)
    (λ (none : no_link ≤ slice_index labels y). let low = c.low y in let r : (slice_index labels y ≡ no_link) ⊎ Above first head s y = inl (omega arith) in r)
    (cases_lt (slice_index labels y) no_link)

-- the ranks from s up to x have met
pub record Meeting (first head forward backward : List ℕ) (x best : ℕ) : Type 0 where
  pub inside : x < length forward
  pub low : best ≤ no_link
  pub here : best ≤ slice_index forward x + slice_index backward x
  pub passed : (y : ℕ) → y < length forward → slice_index forward y < no_link → (best ≤ slice_index forward y + slice_index backward y) ⊎ Above first head x y
  pub some : best < no_link → (y : ℕ) × (y < length forward) × (best ≡ slice_index forward y + slice_index backward y)

pub Meeting-start : (first head forward backward : List ℕ) (s best : ℕ) → CanMeet first head forward backward s → best ≡ min (slice_index forward s + slice_index backward s) no_link → Meeting first head forward backward s best
Meeting-start first head forward backward s best can is =
    record {
      inside = can.rank;
      low = omega arith;
      here = omega arith;
      passed = (λ y inside real. inr (can.above y inside real));
      some = (λ real. (s, can.rank, omega arith));
    }

pub Meeting-more : (first head forward backward : List ℕ) (s x best next : ℕ) → CanMeet first head forward backward s → slice_index first x < slice_index first (x + 1) → Meeting first head forward backward x best → next ≡ min best (slice_index forward (slice_index head (slice_index first x)) + slice_index backward (slice_index head (slice_index first x))) → Meeting first head forward backward (slice_index head (slice_index first x)) next
Meeting-more first head forward backward s x best next can some m is =
    let at : InSpan first x (slice_index first x) = record { low = omega arith; high = some } in
    let p : ℕ = slice_index head (slice_index first x) in
    let inside' : slice_index head (slice_index first x) < length forward = head_inside (length forward) first head x (slice_index first x) can.shape m.inside at in
    let low = m.low in
    let here = m.here in
    record {
      inside = inside';
      low = omega arith;
      here = omega arith;
      passed = (λ y inside real.
          ⊎_elim
          (λ (met : best ≤ slice_index forward y + slice_index backward y).
          let r : (next ≤ slice_index forward y + slice_index backward y) ⊎ Above first head (slice_index head (slice_index first x)) y = inl (omega arith) in r)
          (λ (above : Above first head x y).
          ⊎_elim
          (λ (same : x ≡ y).
          let read : best ≤ slice_index forward y + slice_index backward y = subst (λ (z : ℕ). best ≤ slice_index forward z + slice_index backward z) same here in
          let r : (next ≤ slice_index forward y + slice_index backward y) ⊎ Above first head (slice_index head (slice_index first x)) y = inl (omega arith) in r)
          (λ (over : Above first head (slice_index head (slice_index first x)) y).
          let r : (next ≤ slice_index forward y + slice_index backward y) ⊎ Above first head (slice_index head (slice_index first x)) y = inr over in r)
          (above_parent (length forward) first head x y can.shape m.inside above))
          (m.passed y inside real));
      some = (λ real.
          ⊎_elim
          (λ (old : best < slice_index forward (slice_index head (slice_index first x)) + slice_index backward (slice_index head (slice_index first x))).
          let same : next ≡ best = omega arith in
          let was = m.some (omega arith) in
          let e = was.2 in
          let r : (y : ℕ) × (y < length forward) × (next ≡ slice_index forward y + slice_index backward y) = (was.0, was.1, omega arith) in r)
          (λ (new : slice_index forward (slice_index head (slice_index first x)) + slice_index backward (slice_index head (slice_index first x)) ≤ best).
          let r : (y : ℕ) × (y < length forward) × (next ≡ slice_index forward y + slice_index backward y) = (slice_index head (slice_index first x), inside', omega arith) in r)
          (cases_lt best (slice_index forward (slice_index head (slice_index first x)) + slice_index backward (slice_index head (slice_index first x)))));
    }

pub IsMeeting-top : (first head forward backward : List ℕ) (x best : ℕ) → slice_index first (x + 1) ≤ slice_index first x → Meeting first head forward backward x best → IsMeeting forward backward best
IsMeeting-top first head forward backward x best top m =
    record {
      low = m.low;
      least = (λ y inside real.
          ⊎_elim
          (λ (met : best ≤ slice_index forward y + slice_index backward y). met)
          (λ (above : Above first head x y). subst (λ (z : ℕ). best ≤ slice_index forward z + slice_index backward z) (above_top first head x y top above) m.here)
          (m.passed y inside real));
      some = m.some;
    }

-- the ranks from s up to x are blank again
pub record Clearing (n : ℕ) (first head : List ℕ) (x : ℕ) (labels : List ℕ) : Type 0 where
  pub size : length labels ≡ n
  pub inside : x < n
  pub here : slice_index labels x ≡ no_link
  pub left : (y : ℕ) → y < n → (slice_index labels y ≡ no_link) ⊎ Above first head x y

pub Clearing-start : (n : ℕ) (first head : List ℕ) (s : ℕ) (labels : List ℕ) → length labels ≡ n → s < n → ((y : ℕ) → y < n → (slice_index labels y ≡ no_link) ⊎ Above first head s y) → Clearing n first head s (set labels s no_link)
Clearing-start n first head s labels size is_s left =
    record {
      size = length-set labels s no_link ∙ size;
      inside = is_s;
      here = get_or-set_same labels s no_link 0 (omega arith);
      left = (λ y inside.
          ⊎_elim
          (λ (same : y ≡ s).
          let e : slice_index (set labels s no_link) y ≡ no_link = ap (λ (x : ℕ). slice_index (set labels s no_link) x) same ∙ get_or-set_same labels s no_link 0 (omega arith) in
          let r : (slice_index (set labels s no_link) y ≡ no_link) ⊎ Above first head s y = inl e in r)
          (λ (other : y ≢ s).
          let e : slice_index (set labels s no_link) y ≡ slice_index labels y = get_or-set_other labels s y no_link 0 other in
          ⊎_elim
          (λ (blank : slice_index labels y ≡ no_link). let r : (slice_index (set labels s no_link) y ≡ no_link) ⊎ Above first head s y = inl (e ∙ blank) in r)
          (λ (above : Above first head s y). let r : (slice_index (set labels s no_link) y ≡ no_link) ⊎ Above first head s y = inr above in r)
          (left y inside))
          (same_or_other y s));
    }

pub Clearing-more : (n : ℕ) (first head : List ℕ) (x : ℕ) (labels : List ℕ) → IsShape n first head → slice_index first x < slice_index first (x + 1) → Clearing n first head x labels → Clearing n first head (slice_index head (slice_index first x)) (set labels (slice_index head (slice_index first x)) no_link)
Clearing-more n first head x labels s some c =
    let at : InSpan first x (slice_index first x) = record { low = omega arith; high = some } in
    Clearing-start n first head (slice_index head (slice_index first x)) labels c.size (head_inside n first head x (slice_index first x) s c.inside at)
    (λ y inside.
    ⊎_elim
    (λ (blank : slice_index labels y ≡ no_link). let r : (slice_index labels y ≡ no_link) ⊎ Above first head (slice_index head (slice_index first x)) y = inl blank in r)
    (λ (above : Above first head x y).
    ⊎_elim
    (λ (same : x ≡ y). let r : (slice_index labels y ≡ no_link) ⊎ Above first head (slice_index head (slice_index first x)) y = inl (ap (λ (z : ℕ). slice_index labels z) (sym same) ∙ c.here) in r)
    (λ (over : Above first head (slice_index head (slice_index first x)) y). let r : (slice_index labels y ≡ no_link) ⊎ Above first head (slice_index head (slice_index first x)) y = inr over in r)
    (above_parent n first head x y s c.inside above))
    (c.left y inside))

pub IsBlank-top : (n : ℕ) (first head : List ℕ) (x : ℕ) (labels : List ℕ) → slice_index first (x + 1) ≤ slice_index first x → Clearing n first head x labels → IsBlank n labels
IsBlank-top n first head x labels top c =
    record {
      size = c.size;
      blank = (λ y inside.
          ⊎_elim
          (λ (blank : slice_index labels y ≡ no_link). blank)
          (λ (above : Above first head x y). ap (λ (z : ℕ). slice_index labels z) (sym (above_top first head x y top above)) ∙ c.here)
          (c.left y inside));
    }

rise_inside : (n : ℕ) (first head : List ℕ) (l : Links) (p : List (ℕ × ℕ)) (s y : ℕ) → CanClimb n first head l → s < n → IsRise (links_of n l) s p y → y < n
rise_inside n first head l [] s y can is_s rise = omega (arith, rise)
rise_inside n first head l (e ∷ p) s y can is_s rise =
    let up = up_of_link n first head l s e.0 e.1 can rise.0 in
    let inside = head_inside n first head s up.place can.shape is_s up.span in
    let is = up.is in
    rise_inside n first head l p e.0 y can (omega arith) rise.1

pub IsLeastHill-met : (n : ℕ) (first head : List ℕ) (up down : Links) (s t : ℕ) (forward backward : List ℕ) (best : ℕ) → CanClimb n first head up → s < n → IsClimbed n up s forward → IsClimbed n down t backward → IsMeeting forward backward best → IsLeastHill (links_of n up) (links_of n down) s t best
IsLeastHill-met n first head up down s t forward backward best can is_s f b m =
    let size = f.size in
    record {
      low = m.low;
      least = (λ h.
          let inside : h.top < n = rise_inside n first head up h.rise s h.top can is_s h.is_rise in
          let rise = f.least h.rise h.top h.is_rise in
          let fall = b.least h.fall h.top h.is_fall in
          let low = m.low in
          ⊎_elim
          (λ (real : slice_index forward h.top < no_link). let met = m.least h.top (omega arith) real in let r : best ≤ rise_length h.rise + rise_length h.fall = omega arith in r)
          (λ (none : no_link ≤ slice_index forward h.top). let r : best ≤ rise_length h.rise + rise_length h.fall = omega arith in r)
          (cases_lt (slice_index forward h.top) no_link));
      some = (λ real.
          let met = m.some real in
          let inside = met.1 in
          let sum = met.2 in
          let rise = f.walks met.0 (omega arith) (omega arith) in
          let fall = b.walks met.0 (omega arith) (omega arith) in
          let long_rise = rise.long in
          let long_fall = fall.long in
          record { hill = record { top = met.0; rise = rise.path; fall = fall.path; is_rise = rise.rise; is_fall = fall.rise }; long = omega arith });
    }
