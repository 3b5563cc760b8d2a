-- Thinned links are no longer than any hill between their ends.
use Rattle.std.proofs.Common.{◌≡◌, ◌+◌, ◌<◌, ◌≤◌, ◌⊎◌, ℕ, zero, suc, List, [], ◌∷◌, slice_index, sym, ap, ◌∙◌, subst, arith, ⊎_elim}
use Rattle.std.proofs.lemmas.Bool.{cases_lt}
use Rattle.road_model.specs.Graph.{Graph, IsVertex}
use Rattle.road_model.specs.Walk.{walk_length}
use Rattle.road_model.specs.Dist.{HasWalk, NoneShorter}
use Rattle.hierarchy_build.specs.Hills.{IsRise, rise_length, Hill, HillWithin, IsSound, HasHills, AreShortest}
use Rattle.hierarchy_build.specs.Runs.{InSpan, IsUp, IsShape, IsAcross}
use Rattle.hierarchy_build.specs.Lengths.{no_link, LinkAt, Falls, IsBeaten, AreBeaten}
use Rattle.hierarchy_build.specs.Links.{LeftAt}
use Rattle.hierarchy_build.proofs.Hills.{ordered}
use Rattle.hierarchy_build.proofs.Runs.{places_rise, one_place, head_inside}

-- a rise doesn't lead down
rise_rises : (n : ℕ) (first head lengths : List ℕ) (p : List (ℕ × ℕ)) (a b : ℕ) → IsShape n first head → IsRise (LinkAt n first head lengths) a p b → a ≤ b
rise_rises n first head lengths [] a b s rise = omega (arith, rise)
rise_rises n first head lengths (e ∷ p) a b s rise =
    let link = rise.0 in
    let above = s.above a link.place link.inside link.span in
    let leads = link.leads in
    let rest : e.0 ≤ b = rise_rises n first head lengths p e.0 b s rise.1 in
    omega arith

-- the full lengths, and the thinned ones
record Thinned (n : ℕ) (first head up down up' down' : List ℕ) : Type 0 where
  shape : IsShape n first head
  rise : Falls 0 up up'
  fall : Falls 0 down down'
  beaten : AreBeaten n first head 0 up down up' down'

record IsLeast (n : ℕ) (first head up down up' down' : List ℕ) (a k : ℕ) : Type 0 where
  rise : (h : Hill (LinkAt n first head up) (LinkAt n first head down) a (slice_index head k)) → slice_index up' k ≤ rise_length h.rise + rise_length h.fall
  fall : (h : Hill (LinkAt n first head up) (LinkAt n first head down) (slice_index head k) a) → slice_index down' k ≤ rise_length h.rise + rise_length h.fall

-- two places of the run of a, and x, which joins their ranks
record IsJoined (n : ℕ) (first head : List ℕ) (a i j x : ℕ) : Type 0 where
  order : i < j
  across : IsAcross first head i j x
  above : a < slice_index head i
  inside : slice_index head i < n

joined : (n : ℕ) (first head : List ℕ) (a i j : ℕ) → IsShape n first head → a < n → InSpan first a i → InSpan first a j → slice_index head i < slice_index head j → (x : ℕ) × IsJoined n first head a i j x
joined n first head a i j s is_a at_i at_j lt =
    let rise : i < j = places_rise n first head a i j s is_a at_i at_j lt in
    let there : IsUp first head (slice_index head i) (slice_index head j) = s.chordal a i j is_a at_i at_j rise in
    (there.place, record { order = rise; across = record { span = there.span; is = there.is }; above = s.above a i is_a at_i; inside = head_inside n first head a i s is_a at_i })

abbrev AreLeastAbove : ℕ → List ℕ → List ℕ → List ℕ → List ℕ → List ℕ → List ℕ → ℕ → Type 0
AreLeastAbove n first head up down up' down' a = (b k : ℕ) → a < b → b < n → InSpan first b k → IsLeast n first head up down up' down' b k

-- a hill that begins with a link from a to c and goes on from there
least_rise : (n : ℕ) (first head up down up' down' : List ℕ) (a k c y : ℕ) → Thinned n first head up down up' down' → a < n → InSpan first a k → AreLeastAbove n first head up down up' down' a → LinkAt n first head up a c y → (h : Hill (LinkAt n first head up) (LinkAt n first head down) c (slice_index head k)) → slice_index up' k ≤ y + (rise_length h.rise + rise_length h.fall)
least_rise n first head up down up' down' a k c y t is_a at_k above link h =
    let leads = link.leads in
    let long = link.long in
    ⊎_elim
    (λ (lower : c < slice_index head k).
    let found : (x : ℕ) × IsJoined n first head a link.place k x = joined n first head a link.place k t.shape is_a link.span at_k (omega arith) in
    let x = found.0 in
    let j = found.1 in
    let beaten : IsBeaten up down up' down' link.place k found.0 = t.beaten a link.place k x (omega arith) is_a link.span at_k j.order j.across in
    let least : IsLeast n first head up down up' down' (slice_index head link.place) found.0 = above (slice_index head link.place) x j.above j.inside j.across.span in
    let hill : Hill (LinkAt n first head up) (LinkAt n first head down) (slice_index head link.place) (slice_index head found.0) = record {
      top = h.top;
      rise = h.rise;
      fall = h.fall;
      is_rise = subst (λ (z : ℕ). IsRise (LinkAt n first head up) z h.rise h.top) (sym leads) h.is_rise;
      is_fall = subst (λ (z : ℕ). IsRise (LinkAt n first head down) z h.fall h.top) (sym j.across.is) h.is_fall;
    } in
    let rest : slice_index up' found.0 ≤ rise_length h.rise + rise_length h.fall = least.rise hill in
    let r : slice_index up' k ≤ y + (rise_length h.rise + rise_length h.fall) = omega (arith, beaten.far_rise) in r)
    (λ (other : (c ≡ slice_index head k) ⊎ (slice_index head k < c)).
    ⊎_elim
    (λ (same : c ≡ slice_index head k).
    let place : link.place ≡ k = one_place n first head a link.place k t.shape is_a link.span at_k (leads ∙ same) in
    let is : slice_index up link.place ≡ slice_index up k = ap (λ (z : ℕ). slice_index up z) place in
    let r : slice_index up' k ≤ y + (rise_length h.rise + rise_length h.fall) = omega (arith, t.rise.falls k) in r)
    (λ (higher : slice_index head k < c).
    let found : (x : ℕ) × IsJoined n first head a k link.place x = joined n first head a k link.place t.shape is_a at_k link.span (omega arith) in
    let x = found.0 in
    let j = found.1 in
    let beaten : IsBeaten up down up' down' k link.place found.0 = t.beaten a k link.place x (omega arith) is_a at_k link.span j.order j.across in
    let least : IsLeast n first head up down up' down' (slice_index head k) found.0 = above (slice_index head k) x j.above j.inside j.across.span in
    let hill : Hill (LinkAt n first head up) (LinkAt n first head down) (slice_index head found.0) (slice_index head k) = record {
      top = h.top;
      rise = h.rise;
      fall = h.fall;
      is_rise = subst (λ (z : ℕ). IsRise (LinkAt n first head up) z h.rise h.top) (sym (j.across.is ∙ leads)) h.is_rise;
      is_fall = h.is_fall;
    } in
    let rest : slice_index down' found.0 ≤ rise_length h.rise + rise_length h.fall = least.fall hill in
    let r : slice_index up' k ≤ y + (rise_length h.rise + rise_length h.fall) = omega (arith, beaten.near_rise) in r)
    other)
    ((ordered c (slice_index head k)).cases)

-- and one that ends with a link from c down to a
least_fall : (n : ℕ) (first head up down up' down' : List ℕ) (a k c y : ℕ) → Thinned n first head up down up' down' → a < n → InSpan first a k → AreLeastAbove n first head up down up' down' a → LinkAt n first head down a c y → (h : Hill (LinkAt n first head up) (LinkAt n first head down) (slice_index head k) c) → slice_index down' k ≤ y + (rise_length h.rise + rise_length h.fall)
least_fall n first head up down up' down' a k c y t is_a at_k above link h =
    let leads = link.leads in
    let long = link.long in
    ⊎_elim
    (λ (lower : c < slice_index head k).
    let found : (x : ℕ) × IsJoined n first head a link.place k x = joined n first head a link.place k t.shape is_a link.span at_k (omega arith) in
    let x = found.0 in
    let j = found.1 in
    let beaten : IsBeaten up down up' down' link.place k found.0 = t.beaten a link.place k x (omega arith) is_a link.span at_k j.order j.across in
    let least : IsLeast n first head up down up' down' (slice_index head link.place) found.0 = above (slice_index head link.place) x j.above j.inside j.across.span in
    let hill : Hill (LinkAt n first head up) (LinkAt n first head down) (slice_index head found.0) (slice_index head link.place) = record {
      top = h.top;
      rise = h.rise;
      fall = h.fall;
      is_rise = subst (λ (z : ℕ). IsRise (LinkAt n first head up) z h.rise h.top) (sym j.across.is) h.is_rise;
      is_fall = subst (λ (z : ℕ). IsRise (LinkAt n first head down) z h.fall h.top) (sym leads) h.is_fall;
    } in
    let rest : slice_index down' found.0 ≤ rise_length h.rise + rise_length h.fall = least.fall hill in
    let r : slice_index down' k ≤ y + (rise_length h.rise + rise_length h.fall) = omega (arith, beaten.far_fall) in r)
    (λ (other : (c ≡ slice_index head k) ⊎ (slice_index head k < c)).
    ⊎_elim
    (λ (same : c ≡ slice_index head k).
    let place : link.place ≡ k = one_place n first head a link.place k t.shape is_a link.span at_k (leads ∙ same) in
    let is : slice_index down link.place ≡ slice_index down k = ap (λ (z : ℕ). slice_index down z) place in
    let r : slice_index down' k ≤ y + (rise_length h.rise + rise_length h.fall) = omega (arith, t.fall.falls k) in r)
    (λ (higher : slice_index head k < c).
    let found : (x : ℕ) × IsJoined n first head a k link.place x = joined n first head a k link.place t.shape is_a at_k link.span (omega arith) in
    let x = found.0 in
    let j = found.1 in
    let beaten : IsBeaten up down up' down' k link.place found.0 = t.beaten a k link.place x (omega arith) is_a at_k link.span j.order j.across in
    let least : IsLeast n first head up down up' down' (slice_index head k) found.0 = above (slice_index head k) x j.above j.inside j.across.span in
    let hill : Hill (LinkAt n first head up) (LinkAt n first head down) (slice_index head k) (slice_index head found.0) = record {
      top = h.top;
      rise = h.rise;
      fall = h.fall;
      is_rise = h.is_rise;
      is_fall = subst (λ (z : ℕ). IsRise (LinkAt n first head down) z h.fall h.top) (sym (j.across.is ∙ leads)) h.is_fall;
    } in
    let rest : slice_index up' found.0 ≤ rise_length h.rise + rise_length h.fall = least.rise hill in
    let r : slice_index down' k ≤ y + (rise_length h.rise + rise_length h.fall) = omega (arith, beaten.near_fall) in r)
    other)
    ((ordered c (slice_index head k)).cases)

-- a hill from a to a higher rank begins with a link from a
rise_at : (n : ℕ) (first head up down up' down' : List ℕ) (a k : ℕ) → Thinned n first head up down up' down' → a < n → InSpan first a k → AreLeastAbove n first head up down up' down' a → (p q : List (ℕ × ℕ)) (m : ℕ) → IsRise (LinkAt n first head up) a p m → IsRise (LinkAt n first head down) (slice_index head k) q m → slice_index up' k ≤ rise_length p + rise_length q
rise_at n first head up down up' down' a k t is_a at above [] q m rise fall =
    let up_a = t.shape.above a k is_a at in
    let back = rise_rises n first head down q (slice_index head k) m t.shape fall in
    absurd (omega (arith, rise))
rise_at n first head up down up' down' a k t is_a at above (e ∷ p) q m rise fall =
    let hill : Hill (LinkAt n first head up) (LinkAt n first head down) e.0 (slice_index head k) = record { top = m; rise = p; fall = q; is_rise = rise.1; is_fall = fall } in
    let r : slice_index up' k ≤ e.1 + (rise_length p + rise_length q) = least_rise n first head up down up' down' a k e.0 e.1 t is_a at above rise.0 hill in
    omega arith

-- and one from there to a ends with a link to a
fall_at : (n : ℕ) (first head up down up' down' : List ℕ) (a k : ℕ) → Thinned n first head up down up' down' → a < n → InSpan first a k → AreLeastAbove n first head up down up' down' a → (q p : List (ℕ × ℕ)) (m : ℕ) → IsRise (LinkAt n first head up) (slice_index head k) p m → IsRise (LinkAt n first head down) a q m → slice_index down' k ≤ rise_length p + rise_length q
fall_at n first head up down up' down' a k t is_a at above [] p m rise fall =
    let up_a = t.shape.above a k is_a at in
    let back = rise_rises n first head up p (slice_index head k) m t.shape rise in
    absurd (omega (arith, fall))
fall_at n first head up down up' down' a k t is_a at above (e ∷ q) p m rise fall =
    let hill : Hill (LinkAt n first head up) (LinkAt n first head down) (slice_index head k) e.0 = record { top = m; rise = p; fall = q; is_rise = rise; is_fall = fall.1 } in
    let r : slice_index down' k ≤ e.1 + (rise_length p + rise_length q) = least_fall n first head up down up' down' a k e.0 e.1 t is_a at above fall.0 hill in
    omega arith

-- the ranks from the top down
least_from : (n : ℕ) (first head up down up' down' : List ℕ) (m a k : ℕ) → Thinned n first head up down up' down' → n ≤ a + m → a < n → InSpan first a k → IsLeast n first head up down up' down' a k
least_from n first head up down up' down' zero a k t high is_a at = absurd (omega arith)
least_from n first head up down up' down' (suc m) a k t high is_a at =
    let above : AreLeastAbove n first head up down up' down' a = (λ b j lt is_b at_b. least_from n first head up down up' down' m b j t (omega arith) is_b at_b) in
    record {
      rise = (λ h. rise_at n first head up down up' down' a k t is_a at above h.rise h.fall h.top h.is_rise h.is_fall);
      fall = (λ h. fall_at n first head up down up' down' a k t is_a at above h.fall h.rise h.top h.is_rise h.is_fall);
    }

-- where no hill is shorter, no walk is
none_shorter : (g : Graph) (rank : ℕ → ℕ) (U D : ℕ → ℕ → ℕ → Type 0) (u v x : ℕ) → HasHills no_link g rank U D → IsVertex g.vertices u → IsVertex g.vertices v → x < no_link → ((h : Hill U D (rank u) (rank v)) → x ≤ rise_length h.rise + rise_length h.fall) → NoneShorter g u v x
none_shorter g rank U D u v x hills is_u is_v real least = λ p walk.
    ⊎_elim
    (λ (low : walk_length g p < no_link).
    let found : HillWithin U D (rank u) (rank v) (walk_length g p) = hills u v p is_u is_v walk low in
    let within = found.within in
    let less : x ≤ rise_length found.hill.rise + rise_length found.hill.fall = least found.hill in
    let r : x ≤ walk_length g p = omega arith in r)
    (λ (high : no_link ≤ walk_length g p). let r : x ≤ walk_length g p = omega arith in r)
    (cases_lt (walk_length g p) no_link)

pub AreShortest-left : (g : Graph) (name rank : ℕ → ℕ) (n : ℕ) (first head up down up' down' : List ℕ) (U' D' : ℕ → ℕ → ℕ → Type 0) → ((v : ℕ) → IsVertex g.vertices v → name (rank v) ≡ v) → IsShape n first head → Falls 0 up up' → Falls 0 down down' → AreBeaten n first head 0 up down up' down' → HasHills no_link g rank (LinkAt n first head up) (LinkAt n first head down) → IsSound g name U' D' → ((a b x : ℕ) → U' a b x → LeftAt n first head up up' a b x) → ((a b x : ℕ) → D' a b x → LeftAt n first head down down' a b x) → AreShortest g rank U' D'
AreShortest-left g name rank n first head up down up' down' U' D' back s rise fall beaten hills sound left_up left_down =
    let t : Thinned n first head up down up' down' = record { shape = s; rise = rise; fall = fall; beaten = beaten } in
    record {
      up = (λ u v x is_u is_v link.
          let left : LeftAt n first head up up' (rank u) (rank v) x = left_up (rank u) (rank v) x link in
          let at = left.link in
          let is : slice_index up' left.link.place ≡ x = left.least in
          let least : IsLeast n first head up down up' down' (rank u) left.link.place = least_from n first head up down up' down' n (rank u) at.place t (omega arith) at.inside at.span in
          let walk : HasWalk g u v x = subst (λ (z : ℕ). HasWalk g z v x) (back u is_u) (subst (λ (z : ℕ). HasWalk g (name (rank u)) z x) (back v is_v) (sound.up (rank u) (rank v) x link)) in (
            walk,
            none_shorter g rank (LinkAt n first head up) (LinkAt n first head down) u v x hills is_u is_v at.real
                (λ h.
                let r : slice_index up' left.link.place ≤ rise_length h.rise + rise_length h.fall = least.rise (record { top = h.top; rise = h.rise; fall = h.fall; is_rise = h.is_rise; is_fall = subst (λ (z : ℕ). IsRise (LinkAt n first head down) z h.fall h.top) (sym at.leads) h.is_fall }) in
                omega arith),
          ));
      down = (λ u v x is_u is_v link.
          let left : LeftAt n first head down down' (rank u) (rank v) x = left_down (rank u) (rank v) x link in
          let at = left.link in
          let is : slice_index down' left.link.place ≡ x = left.least in
          let least : IsLeast n first head up down up' down' (rank u) left.link.place = least_from n first head up down up' down' n (rank u) at.place t (omega arith) at.inside at.span in
          let walk : HasWalk g v u x = subst (λ (z : ℕ). HasWalk g v z x) (back u is_u) (subst (λ (z : ℕ). HasWalk g z (name (rank u)) x) (back v is_v) (sound.down (rank u) (rank v) x link)) in (
            walk,
            none_shorter g rank (LinkAt n first head up) (LinkAt n first head down) v u x hills is_v is_u at.real
                (λ h.
                let r : slice_index down' left.link.place ≤ rise_length h.rise + rise_length h.fall = least.fall (record { top = h.top; rise = h.rise; fall = h.fall; is_rise = subst (λ (z : ℕ). IsRise (LinkAt n first head up) z h.rise h.top) (sym at.leads) h.is_rise; is_fall = h.is_fall }) in
                omega arith),
          ));
    }
