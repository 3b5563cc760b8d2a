-- The least hills from one rank, one after another.
use Rattle.std.proofs.Common.{◌≡◌, ◌≢◌, ◌+◌, ◌-◌, ◌<◌, ◌≤◌, ◌⊎◌, ℕ, min, List, [], ◌∷◌, ◌++◌, length, slice_index, set, refl, sym, ap, ◌∙◌, subst, arith, inl, inr, ⊎_elim, get_or-set_same, get_or-set_other, length-append}
use Rattle.std.proofs.Math.ListN.{length-set}
use Rattle.std.proofs.lemmas.Bool.{cases_lt}
use Rattle.std.proofs.lemmas.List.{get_or_append_left, get_or-append_right}
use Rattle.road_model.proofs.Basics.{same_or_other}
use Rattle.hierarchy_build.specs.declared.links.Links.{Links}
use Rattle.hierarchy_build.specs.Parts.{Parts}
use Rattle.hierarchy_build.specs.Hills.{IsRise, rise_length, HasHill}
use Rattle.hierarchy_build.specs.Runs.{InSpan, IsUp, IsShape, HasPlace}
use Rattle.hierarchy_build.specs.Lengths.{no_link}
use Rattle.hierarchy_build.specs.Links.{links_of}
use Rattle.hierarchy_build.proofs.Runs.{head_inside}
use Rattle.hierarchy_query.specs.Climbs.{CanClimb, IsClimbed, IsLeastHill}
use Rattle.hierarchy_query.specs.Asks.{up_links, down_links}
use Rattle.hierarchy_query.specs.KnownHills.{IsKnown, AreUnknown, AreForgotten, IsLonger, Leads, IsStacked, IsLeastOver, AreLeast}
use Rattle.hierarchy_query.proofs.Climbs.{over_parent}

-- what is known is listed at a place from i on
pub record Forgetting (n : ℕ) (found : List ℕ) (i : ℕ) (least : List ℕ) : Type 0 where
  pub size : length least ≡ n
  pub left : (x : ℕ) → x < n → IsKnown least x → HasPlace found i x

pub Forgetting-more : (n : ℕ) (found : List ℕ) (i x : ℕ) (least : List ℕ) → slice_index found i ≡ x → x < n → Forgetting n found i least → Forgetting n found (i + 1) (set least x 18446744073709551615)
Forgetting-more n found i x least is inside h =
    let size = h.size in
    record {
      size = length-set least x 18446744073709551615 ∙ h.size;
      left = (λ z inside_z known.
          ⊎_elim
          (λ (same : z ≡ x).
          let read : slice_index (set least x 18446744073709551615) z ≡ 18446744073709551615 = ap (λ (w : ℕ). slice_index (set least x 18446744073709551615) w) same ∙ get_or-set_same least x 18446744073709551615 0 (omega arith) in
          let r : HasPlace found (i + 1) z = absurd (omega arith) in r)
          (λ (other : z ≢ x).
          let read : slice_index (set least x 18446744073709551615) z ≡ slice_index least z = get_or-set_other least x z 18446744073709551615 0 other in
          let was : HasPlace found i z = h.left z inside_z (omega arith) in
          let late = was.late in
          ⊎_elim
          (λ (later : i < was.place). let r : HasPlace found (i + 1) z = record { place = was.place; late = omega arith; inside = was.inside; is = was.is } in r)
          (λ (here : was.place ≤ i).
          let at : i ≡ was.place = omega arith in
          let same : z ≡ x = sym was.is ∙ ap (λ (k : ℕ). slice_index found k) (sym at) ∙ is in
          let r : HasPlace found (i + 1) z = absurd (other same) in r)
          (cases_lt i was.place))
          (same_or_other z x));
    }

pub AreUnknown-all : (n : ℕ) (found : List ℕ) (i : ℕ) (least : List ℕ) → length found ≤ i → Forgetting n found i least → AreUnknown n least
AreUnknown-all n found i least all h =
    record {
      size = h.size;
      unknown = (λ x inside.
          ⊎_elim
          (λ (above : no_link < slice_index least x). above)
          (λ (known : slice_index least x ≤ no_link).
          let at = h.left x inside known in
          let late = at.late in
          let within = at.inside in
          let r : no_link < slice_index least x = absurd (omega arith) in r)
          (cases_lt no_link (slice_index least x)));
    }

-- the least of a rise and of what comes by the links of x before the place k
pub record LeastSoFar (l : Links) (x k rise : ℕ) (least : List ℕ) (best : ℕ) : Type 0 where
  pub low : best ≤ rise
  pub all : (j : ℕ) → j < k → InSpan l.first x j → best ≤ slice_index least (slice_index l.head j) + slice_index l.length j
  pub cases : (best ≡ rise) ⊎ ((j : ℕ) × (InSpan l.first x j) × (best ≡ slice_index least (slice_index l.head j) + slice_index l.length j))

pub LeastSoFar-none : (l : Links) (x k rise : ℕ) (least : List ℕ) → k ≤ slice_index l.first x → LeastSoFar l x k rise least rise
LeastSoFar-none l x k rise least le =
    record {
      low = omega arith;
      all = (λ j low span. absurd (let a = span.low in omega arith));
      cases = inl refl;
    }

pub LeastSoFar-more : (l : Links) (x k rise : ℕ) (least : List ℕ) (best next : ℕ) → InSpan l.first x k → next ≡ min best (slice_index least (slice_index l.head k) + slice_index l.length k) → LeastSoFar l x k rise least best → LeastSoFar l x (k + 1) rise least next
LeastSoFar-more l x k rise least best next span is h =
    let low = h.low in
    record {
      low = omega arith;
      all = (λ j lt at.
          ⊎_elim
          (λ (before : j < k). let was = h.all j before at in let r : next ≤ slice_index least (slice_index l.head j) + slice_index l.length j = omega arith in r)
          (λ (here : k ≤ j).
          let same : k ≡ j = omega arith in
          let new : next ≤ slice_index least (slice_index l.head k) + slice_index l.length k = omega arith in
          subst (λ (i : ℕ). next ≤ slice_index least (slice_index l.head i) + slice_index l.length i) same new)
          (cases_lt j k));
      cases =
          ⊎_elim
          (λ (old : best < slice_index least (slice_index l.head k) + slice_index l.length k).
          let same : next ≡ best = omega arith in
          ⊎_elim
          (λ (rises : best ≡ rise). let r : (next ≡ rise) ⊎ ((j : ℕ) × (InSpan l.first x j) × (next ≡ slice_index least (slice_index l.head j) + slice_index l.length j)) = inl (same ∙ rises) in r)
          (λ (comes : (j : ℕ) × (InSpan l.first x j) × (best ≡ slice_index least (slice_index l.head j) + slice_index l.length j)).
          let r : (next ≡ rise) ⊎ ((j : ℕ) × (InSpan l.first x j) × (next ≡ slice_index least (slice_index l.head j) + slice_index l.length j)) = inr (comes.0, comes.1, same ∙ comes.2) in r)
          h.cases)
          (λ (new : slice_index least (slice_index l.head k) + slice_index l.length k ≤ best).
          let r : (next ≡ rise) ⊎ ((j : ℕ) × (InSpan l.first x j) × (next ≡ slice_index least (slice_index l.head j) + slice_index l.length j)) = inr (k, span, omega arith) in r)
          (cases_lt best (slice_index least (slice_index l.head k) + slice_index l.length k));
    }

pub IsLeastOver-all : (l : Links) (x k rise : ℕ) (least : List ℕ) (best : ℕ) → slice_index l.first (x + 1) ≤ k → LeastSoFar l x k rise least best → IsLeastOver l x rise least best
IsLeastOver-all l x k rise least best le h =
    record {
      low = h.low;
      all = (λ j span. h.all j (let high = span.high in omega arith) span);
      cases = h.cases;
    }

-- no hill is shorter
over : (n : ℕ) (up down : Links) (s x : ℕ) (rising least : List ℕ) (best top : ℕ) (rise fall : List (ℕ × ℕ)) → IsClimbed n up s rising → ((k : ℕ) → InSpan down.first x k → IsLeastHill (links_of n up) (links_of n down) s (slice_index down.head k) (slice_index least (slice_index down.head k))) → IsLeastOver down x (slice_index rising x) least best → IsRise (links_of n up) s rise top → IsRise (links_of n down) x fall top → best ≤ rise_length rise + rise_length fall
over n up down s x rising least best top rise [] c above o is_rise is_fall =
    let to : IsRise (links_of n up) s rise x = subst (λ (t : ℕ). IsRise (links_of n up) s rise t) (sym is_fall) is_rise in
    let least_rise = c.least rise x to in
    let low = o.low in
    omega arith
over n up down s x rising least best top rise (e ∷ p) c above o is_rise is_fall =
    let link = is_fall.0 in
    let to : IsRise (links_of n down) (slice_index down.head link.place) p top = subst (λ (t : ℕ). IsRise (links_of n down) t p top) (sym link.leads) is_fall.1 in
    let least_hill : slice_index least (slice_index down.head link.place) ≤ rise_length rise + rise_length p = (above link.place link.span).least (record { top = top; rise = rise; fall = p; is_rise = is_rise; is_fall = to }) in
    let short = o.all link.place link.span in
    let long = link.long in
    omega arith

-- the least hill to x is the least rise to it, or comes down by one of its links
pub IsLeastHill-over : (n : ℕ) (first head : List ℕ) (up down : Links) (s x : ℕ) (rising least : List ℕ) (best : ℕ) → CanClimb n first head down → x < n → IsClimbed n up s rising → ((k : ℕ) → InSpan down.first x k → IsLeastHill (links_of n up) (links_of n down) s (slice_index down.head k) (slice_index least (slice_index down.head k))) → IsLeastOver down x (slice_index rising x) least best → IsLeastHill (links_of n up) (links_of n down) s x best
IsLeastHill-over n first head up down s x rising least best can inside c above o =
    let low = o.low in
    let short = c.low x in
    record {
      low = omega arith;
      least = (λ h. over n up down s x rising least best h.top h.rise h.fall c above o h.is_rise h.is_fall);
      some = (λ real.
          ⊎_elim
          (λ (rises : best ≡ slice_index rising x).
          let rise = c.walks x inside (omega arith) in
          let long = rise.long in
          let r : HasHill (links_of n up) (links_of n down) s x best = record { hill = record { top = x; rise = rise.path; fall = []; is_rise = rise.rise; is_fall = refl }; long = omega arith } in r)
          (λ (comes : (k : ℕ) × (InSpan down.first x k) × (best ≡ slice_index least (slice_index down.head k) + slice_index down.length k)).
          let k : ℕ = comes.0 in
          let sum = comes.2 in
          let found = (above comes.0 comes.1).some (omega arith) in
          let long = found.long in
          let link : links_of n down x (slice_index down.head comes.0) (slice_index down.length comes.0) = record { place = comes.0; inside = inside; span = comes.1; leads = refl; long = refl; real = can.links.short comes.0 } in
          let r : HasHill (links_of n up) (links_of n down) s x best = record {
            hill = record {
              top = found.hill.top;
              rise = found.hill.rise;
              fall = (slice_index down.head comes.0, slice_index down.length comes.0) ∷ found.hill.fall;
              is_rise = found.hill.is_rise;
              is_fall = (link, found.hill.is_fall);
            };
            long = omega arith;
          } in r)
          o.cases);
    }

-- the way up from x to y is listed from the place `from` on, as far as y
pub record Stacking (n : ℕ) (first head : List ℕ) (x : ℕ) (old found : List ℕ) (y : ℕ) : Type 0 where
  pub longer : IsLonger n old found
  pub inside : y < n
  pub leads : (k : ℕ) → length old ≤ k → k + 1 < length found → Leads first head (slice_index found k) (slice_index found (k + 1))
  pub last : (k : ℕ) → length old ≤ k → k + 1 ≡ length found → Leads first head (slice_index found k) y
  pub none : length old ≡ length found → y ≡ x
  pub some : length old < length found → slice_index found (length old) ≡ x

pub IsLonger-same : (n : ℕ) (old : List ℕ) → ((k : ℕ) → k < length old → slice_index old k < n) → IsLonger n old old
IsLonger-same n old ranks = record { more = omega arith; kept = (λ k lt. refl); ranks = ranks }

at_end : (found : List ℕ) (y : ℕ) → slice_index (found ++ y ∷ []) (length found) ≡ y
at_end found y =
    let minus : length found - length found ≡ 0 = omega arith in
    get_or-append_right found (y ∷ []) (length found) (length found) 0 refl (omega arith) ∙ ap (λ (j : ℕ). slice_index (y ∷ []) j) minus

pub IsLonger-more : (n : ℕ) (old found : List ℕ) (y : ℕ) → y < n → IsLonger n old found → IsLonger n old (found ++ y ∷ [])
IsLonger-more n old found y inside h =
    let size : length (found ++ y ∷ []) ≡ length found + 1 = omega (arith, length-append found (y ∷ [])) in
    let more = h.more in
    record {
      more = omega arith;
      kept = (λ k lt. get_or_append_left found (y ∷ []) 0 k (omega arith) ∙ h.kept k lt);
      ranks = (λ k lt.
          ⊎_elim
          (λ (before : k < length found).
          let read : slice_index (found ++ y ∷ []) k ≡ slice_index found k = get_or_append_left found (y ∷ []) 0 k before in
          let was = h.ranks k before in
          let r : slice_index (found ++ y ∷ []) k < n = omega arith in r)
          (λ (here : length found ≤ k).
          let same : k ≡ length found = omega arith in
          let read : slice_index (found ++ y ∷ []) k ≡ y = ap (λ (j : ℕ). slice_index (found ++ y ∷ []) j) same ∙ at_end found y in
          let r : slice_index (found ++ y ∷ []) k < n = omega arith in r)
          (cases_lt k (length found)));
    }

pub Stacking-start : (n : ℕ) (first head : List ℕ) (x : ℕ) (old : List ℕ) → x < n → ((k : ℕ) → k < length old → slice_index old k < n) → Stacking n first head x old old x
Stacking-start n first head x old inside ranks =
    record {
      longer = IsLonger-same n old ranks;
      inside = inside;
      leads = (λ k late more. absurd (omega arith));
      last = (λ k late more. absurd (omega arith));
      none = (λ e. refl);
      some = (λ lt. absurd (omega arith));
    }

-- what was listed leads to y, now the last of the list
leads_pushed : (first head old found : List ℕ) (y : ℕ) → ((k : ℕ) → length old ≤ k → k + 1 < length found → Leads first head (slice_index found k) (slice_index found (k + 1))) → ((k : ℕ) → length old ≤ k → k + 1 ≡ length found → Leads first head (slice_index found k) y) → (k : ℕ) → length old ≤ k → k + 1 < length (found ++ y ∷ []) → Leads first head (slice_index (found ++ y ∷ []) k) (slice_index (found ++ y ∷ []) (k + 1))
leads_pushed first head old found y leads last k late more = λ z up.
    let size : length (found ++ y ∷ []) ≡ length found + 1 = omega (arith, length-append found (y ∷ [])) in
    let before : k < length found = omega arith in
    let read : slice_index (found ++ y ∷ []) k ≡ slice_index found k = get_or_append_left found (y ∷ []) 0 k before in
    let was : IsUp first head (slice_index found k) z = subst (λ (w : ℕ). IsUp first head w z) read up in
    ⊎_elim
    (λ (inner : k + 1 < length found).
    let next : slice_index (found ++ y ∷ []) (k + 1) ≡ slice_index found (k + 1) = get_or_append_left found (y ∷ []) 0 (k + 1) inner in
    subst (λ (w : ℕ). (z ≡ w) ⊎ IsUp first head w z) (sym next) (leads k late inner z was))
    (λ (end : length found ≤ k + 1).
    let same : k + 1 ≡ length found = omega arith in
    let next : slice_index (found ++ y ∷ []) (k + 1) ≡ y = ap (λ (j : ℕ). slice_index (found ++ y ∷ []) j) same ∙ at_end found y in
    subst (λ (w : ℕ). (z ≡ w) ⊎ IsUp first head w z) (sym next) (last k late same z was))
    (cases_lt (k + 1) (length found))

-- the first of the list is x
begins_pushed : (old found : List ℕ) (x y : ℕ) → length old ≤ length found → (length old ≡ length found → y ≡ x) → (length old < length found → slice_index found (length old) ≡ x) → slice_index (found ++ y ∷ []) (length old) ≡ x
begins_pushed old found x y more none some =
    ⊎_elim
    (λ (lt : length old < length found). get_or_append_left found (y ∷ []) 0 (length old) lt ∙ some lt)
    (λ (ge : length found ≤ length old).
    let same : length old ≡ length found = omega arith in
    ap (λ (j : ℕ). slice_index (found ++ y ∷ []) j) same ∙ at_end found y ∙ none same)
    (cases_lt (length old) (length found))

pub Stacking-more : (n : ℕ) (first head : List ℕ) (x : ℕ) (old found : List ℕ) (y : ℕ) → IsShape n first head → slice_index first y < slice_index first (y + 1) → Stacking n first head x old found y → Stacking n first head x old (found ++ y ∷ []) (slice_index head (slice_index first y))
Stacking-more n first head x old found y s some h =
    let size : length (found ++ y ∷ []) ≡ length found + 1 = omega (arith, length-append found (y ∷ [])) in
    let at : InSpan first y (slice_index first y) = record { low = omega arith; high = some } in
    let more = h.longer.more in
    record {
      longer = IsLonger-more n old found y h.inside h.longer;
      inside = head_inside n first head y (slice_index first y) s h.inside at;
      leads = leads_pushed first head old found y h.leads h.last;
      last = (λ k late end. λ z up.
          let same : k ≡ length found = omega arith in
          let read : slice_index (found ++ y ∷ []) k ≡ y = ap (λ (j : ℕ). slice_index (found ++ y ∷ []) j) same ∙ at_end found y in
          over_parent n first head y z s h.inside (subst (λ (w : ℕ). IsUp first head w z) read up));
      none = (λ e. absurd (omega arith));
      some = (λ lt. begins_pushed old found x y more h.none h.some);
    }

pub IsStacked-known : (n : ℕ) (first head least : List ℕ) (x : ℕ) (old found : List ℕ) (y : ℕ) → ((a b : ℕ) → a < n → IsKnown least a → IsUp first head a b → IsKnown least b) → IsKnown least y → Stacking n first head x old found y → IsStacked first head least x (length old) found
IsStacked-known n first head least x old found y closed known h =
    record {
      leads = h.leads;
      last = (λ k z late end up.
          ⊎_elim
          (λ (same : z ≡ y). let read : slice_index least z ≡ slice_index least y = ap (λ (w : ℕ). slice_index least w) same in let r : slice_index least z ≤ no_link = omega arith in r)
          (λ (over : IsUp first head y z). closed y z h.inside known over)
          (h.last k late end z up));
      none = (λ e. subst (λ (w : ℕ). IsKnown least w) (h.none e) known);
      some = h.some;
    }

pub IsStacked-top : (n : ℕ) (first head least : List ℕ) (x : ℕ) (old found : List ℕ) (y : ℕ) → slice_index first (y + 1) ≤ slice_index first y → Stacking n first head x old found y → IsStacked first head least x (length old) (found ++ y ∷ [])
IsStacked-top n first head least x old found y top h =
    let size : length (found ++ y ∷ []) ≡ length found + 1 = omega (arith, length-append found (y ∷ [])) in
    let more = h.longer.more in
    record {
      leads = leads_pushed first head old found y h.leads h.last;
      last = (λ k z late end up.
          let same : k ≡ length found = omega arith in
          let read : slice_index (found ++ y ∷ []) k ≡ y = ap (λ (j : ℕ). slice_index (found ++ y ∷ []) j) same ∙ at_end found y in
          let here : IsUp first head y z = subst (λ (w : ℕ). IsUp first head w z) read up in
          let low = here.span.low in
          let high = here.span.high in
          absurd (omega arith));
      none = (λ e. absurd (omega arith));
      some = (λ lt. begins_pushed old found x y more h.none h.some);
    }

-- a length written for y
written : (least : List ℕ) (y z best : ℕ) → y < length least → z ≡ y → slice_index (set least y best) z ≡ best
written least y z best inside same = ap (λ (w : ℕ). slice_index (set least y best) w) same ∙ get_or-set_same least y best 0 inside

known_kept : (least : List ℕ) (y z best : ℕ) → y < length least → best ≤ no_link → IsKnown least z → IsKnown (set least y best) z
known_kept least y z best inside low known =
    ⊎_elim
    (λ (same : z ≡ y). let read = written least y z best inside same in let r : slice_index (set least y best) z ≤ no_link = omega arith in r)
    (λ (other : z ≢ y). let read : slice_index (set least y best) z ≡ slice_index least z = get_or-set_other least y z best 0 other in let r : slice_index (set least y best) z ≤ no_link = omega arith in r)
    (same_or_other z y)

pub AreLeast-more : (n : ℕ) (h : Parts) (s y place best : ℕ) (rising least found : List ℕ) → CanClimb n h.shape.first h.shape.head h.down → IsClimbed n h.up s rising → place < length found → slice_index found place ≡ y → ((z : ℕ) → IsUp h.shape.first h.shape.head y z → IsKnown least z) → IsLeastOver h.down y (slice_index rising y) least best → AreLeast n h s least found → AreLeast n h s (set least y best) found
AreLeast-more n h s y place best rising least found can climbed at is ready over a =
    let size = a.size in
    let listed = a.ranks place at in
    let inside : y < n = omega arith in
    let there : y < length least = omega arith in
    let low = over.low in
    let short = climbed.low y in
    let real : best ≤ no_link = omega arith in
    record {
      size = length-set least y best ∙ a.size;
      exact = (λ x is_x known.
          ⊎_elim
          (λ (same : x ≡ y).
          let hill : IsLeastHill (up_links n h) (down_links n h) s y best =
          IsLeastHill-over n h.shape.first h.shape.head h.up h.down s y rising least best can inside climbed
          (λ k span.
          let up = can.links.under y k inside span in
          let head_in : slice_index h.down.head k < n = (let p = head_inside n h.shape.first h.shape.head y up.place can.shape inside up.span in let e = up.is in omega arith) in
          a.exact (slice_index h.down.head k) head_in (ready (slice_index h.down.head k) up)) over in
          subst (λ (d : ℕ). IsLeastHill (up_links n h) (down_links n h) s x d) (sym (written least y x best there same))
          (subst (λ (w : ℕ). IsLeastHill (up_links n h) (down_links n h) s w best) (sym same) hill))
          (λ (other : x ≢ y).
          let read : slice_index (set least y best) x ≡ slice_index least x = get_or-set_other least y x best 0 other in
          subst (λ (d : ℕ). IsLeastHill (up_links n h) (down_links n h) s x d) (sym read) (a.exact x is_x (omega arith)))
          (same_or_other x y));
      closed = (λ x z is_x known up.
          ⊎_elim
          (λ (same : x ≡ y). known_kept least y z best there real (ready z (subst (λ (w : ℕ). IsUp h.shape.first h.shape.head w z) same up)))
          (λ (other : x ≢ y).
          let read : slice_index (set least y best) x ≡ slice_index least x = get_or-set_other least y x best 0 other in
          known_kept least y z best there real (a.closed x z is_x (omega arith) up))
          (same_or_other x y));
      listed = (λ x is_x known.
          ⊎_elim
          (λ (same : x ≡ y). let r : HasPlace found 0 x = record { place = place; late = omega arith; inside = at; is = is ∙ sym same } in r)
          (λ (other : x ≢ y).
          let read : slice_index (set least y best) x ≡ slice_index least x = get_or-set_other least y x best 0 other in
          a.listed x is_x (omega arith))
          (same_or_other x y));
      ranks = a.ranks;
    }

-- the listed ranks from the place on are known, and so is what stands above the one before it
pub record WorkingOut (first head least : List ℕ) (x from : ℕ) (found : List ℕ) (place : ℕ) : Type 0 where
  pub late : from ≤ place
  pub inside : place ≤ length found
  pub leads : (k : ℕ) → from ≤ k → k + 1 < length found → Leads first head (slice_index found k) (slice_index found (k + 1))
  pub ready : (k z : ℕ) → from ≤ k → k + 1 ≡ place → IsUp first head (slice_index found k) z → IsKnown least z
  pub none : from ≡ length found → IsKnown least x
  pub some : from < length found → slice_index found from ≡ x
  pub done : place < length found → IsKnown least (slice_index found place)

pub WorkingOut-start : (first head least : List ℕ) (x from : ℕ) (found : List ℕ) (place : ℕ) → from ≤ length found → place ≡ length found → IsStacked first head least x from found → WorkingOut first head least x from found place
WorkingOut-start first head least x from found place inside end h =
    record {
      late = omega arith;
      inside = omega arith;
      leads = h.leads;
      ready = (λ k z late at up. h.last k z late (omega arith) up);
      none = h.none;
      some = h.some;
      done = (λ lt. absurd (omega arith));
    }

pub ready_before : (first head least : List ℕ) (x from : ℕ) (found : List ℕ) (place next y z : ℕ) → next + 1 ≡ place → from ≤ next → slice_index found next ≡ y → WorkingOut first head least x from found place → IsUp first head y z → IsKnown least z
ready_before first head least x from found place next y z before late is h up =
    h.ready next z late before (subst (λ (w : ℕ). IsUp first head w z) (sym is) up)

pub WorkingOut-more : (first head least : List ℕ) (x from : ℕ) (found : List ℕ) (place next y best : ℕ) → next + 1 ≡ place → from ≤ next → slice_index found next ≡ y → y < length least → best ≤ no_link → WorkingOut first head least x from found place → WorkingOut first head (set least y best) x from found next
WorkingOut-more first head least x from found place next y best before late is there real h =
    let inside = h.inside in
    record {
      late = late;
      inside = omega arith;
      leads = h.leads;
      ready = (λ k z late_k at up.
          let reads : slice_index found (k + 1) ≡ y = ap (λ (j : ℕ). slice_index found j) at ∙ is in
          ⊎_elim
          (λ (same : z ≡ slice_index found (k + 1)).
          let read = written least y z best there (same ∙ reads) in
          let r : slice_index (set least y best) z ≤ no_link = omega arith in r)
          (λ (over : IsUp first head (slice_index found (k + 1)) z).
          let here : IsUp first head (slice_index found next) z = subst (λ (j : ℕ). IsUp first head (slice_index found j) z) at over in
          known_kept least y z best there real (h.ready next z late before here))
          (h.leads k late_k (omega arith) z up));
      none = (λ e. known_kept least y x best there real (h.none e));
      some = h.some;
      done = (λ lt. let read = written least y (slice_index found next) best there is in let r : slice_index (set least y best) (slice_index found next) ≤ no_link = omega arith in r);
    }

pub IsKnown-worked_out : (first head least : List ℕ) (x from : ℕ) (found : List ℕ) (place : ℕ) → place ≤ from → WorkingOut first head least x from found place → IsKnown least x
IsKnown-worked_out first head least x from found place end h =
    let late = h.late in
    let inside = h.inside in
    let same : place ≡ from = omega arith in
    ⊎_elim
    (λ (lt : from < length found).
    let read : slice_index found place ≡ x = ap (λ (j : ℕ). slice_index found j) same ∙ h.some lt in
    subst (λ (w : ℕ). IsKnown least w) read (h.done (omega arith)))
    (λ (ge : length found ≤ from). h.none (omega arith))
    (cases_lt from (length found))

-- a longer list
pub AreLeast-longer : (n : ℕ) (h : Parts) (s : ℕ) (least old new : List ℕ) → IsLonger n old new → AreLeast n h s least old → AreLeast n h s least new
AreLeast-longer n h s least old new longer a =
    let more = longer.more in
    record {
      size = a.size;
      exact = a.exact;
      closed = a.closed;
      listed = (λ x inside known.
          let was = a.listed x inside known in
          let at = was.inside in
          let r : HasPlace new 0 x = record { place = was.place; late = was.late; inside = omega arith; is = longer.kept was.place was.inside ∙ was.is } in r);
      ranks = longer.ranks;
    }

-- nothing is known yet
pub AreLeast-none : (n : ℕ) (h : Parts) (s : ℕ) (least : List ℕ) → AreUnknown n least → AreLeast n h s least []
AreLeast-none n h s least u =
    record {
      size = u.size;
      exact = (λ x inside known. let above = u.unknown x inside in let r : IsLeastHill (up_links n h) (down_links n h) s x (slice_index least x) = absurd (omega arith) in r);
      closed = (λ x y inside known up. let above = u.unknown x inside in let r : slice_index least y ≤ no_link = absurd (omega arith) in r);
      listed = (λ x inside known. let above = u.unknown x inside in let r : HasPlace [] 0 x = absurd (omega arith) in r);
      ranks = (λ k lt. absurd (omega arith));
    }

pub AreLeast-forgotten : (n : ℕ) (h : Parts) (s : ℕ) (rising least found : List ℕ) → AreForgotten n rising least found → AreLeast n h s least found
AreLeast-forgotten n h s rising least found f =
    subst (λ (xs : List ℕ). AreLeast n h s least xs) (sym f.none_listed) (AreLeast-none n h s least f.none_known)

-- by what the code read
pub closed_read : (n : ℕ) (h : Parts) (s : ℕ) (least found first head read : List ℕ) → first ≡ h.shape.first → head ≡ h.shape.head → read ≡ least → AreLeast n h s least found → (y z : ℕ) → y < length read → IsKnown read y → IsUp first head y z → IsKnown read z
closed_read n h s least found first head read is_first is_head is a y z inside known up =
    let size = a.size in
    let long : length read ≡ length least = ap (λ (xs : List ℕ). length xs) is in
    let was : IsKnown least y = subst (λ (xs : List ℕ). IsKnown xs y) is known in
    let up' : IsUp h.shape.first h.shape.head y z = subst (λ (xs : List ℕ). IsUp h.shape.first xs y z) is_head (subst (λ (xs : List ℕ). IsUp xs head y z) is_first up) in
    subst (λ (xs : List ℕ). IsKnown xs z) (sym is) (a.closed y z (omega arith) was up')
