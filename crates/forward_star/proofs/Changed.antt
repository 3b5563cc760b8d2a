-- What a batch without a fault says of its first change, and what one change makes of the lengths of a star.
use Rattle.std.proofs.Common.{◌≡◌, ◌≤◌, ◌<◌, ◌&&◌, ℕ, Bool, true, false, cond, leb, List, ◌∷◌, Option, Some, None, refl, ap, arith}
use Rattle.std.specs.Option.{option_or}
use Rattle.std.proofs.lemmas.Bool.{leb-true}
use Rattle.road_model.specs.declared.change.Change.{Change}
use Rattle.road_model.specs.declared.change.ChangeFault.{ChangeFault}
use Rattle.road_model.specs.declared.change.ChangeFault.TheVariants as fault
use Rattle.road_model.specs.Graph.{Graph, arc_count}
use Rattle.road_model.specs.Changes.{fault_of, change_fault}

none_or : (o p : Option ChangeFault) → option_or o p ≡ None → (o ≡ None) × (p ≡ None)
none_or None p h = (refl, h)
none_or (Some f) p h = absurd (let e : Some f ≡ None = h in cc)

pub first_sound : (g : Graph) (c : Change) (batch : List Change) → change_fault g (c ∷ batch) ≡ None → (fault_of g c ≡ None) × (change_fault g batch ≡ None)
first_sound g c batch h = none_or (fault_of g c) (change_fault g batch) h

-- a fault depends on how many arcs there are, and on nothing else of the graph
abbrev fault_among : ℕ → Change → Option ChangeFault
fault_among m c = cond (leb 1 c.arc && leb c.arc m) (cond (leb 1 c.length && leb c.length 4294967295) None (Some fault.LengthRange)) (Some fault.ArcRange)

pub fault_of-count : (g h : Graph) (c : Change) → arc_count h ≡ arc_count g → fault_of h c ≡ fault_of g c
fault_of-count g h c same = ap (λ (m : ℕ). fault_among m c) same

both : (a b c d : Bool) (x y : ChangeFault) → cond (a && b) (cond (c && d) None (Some x)) (Some y) ≡ None → (a ≡ true) × (b ≡ true) × (c ≡ true) × (d ≡ true)
both true true true true x y h = (refl, refl, refl, refl)
both true true true false x y h = absurd (let e : Some x ≡ None = h in cc)
both true true false d x y h = absurd (let e : Some x ≡ None = h in cc)
both true false c d x y h = absurd (let e : Some y ≡ None = h in cc)
both false b c d x y h = absurd (let e : Some y ≡ None = h in cc)

pub record IsSound (m a l : ℕ) : Type 0 where
  pub first : 1 ≤ a
  pub last : a ≤ m
  pub positive : 1 ≤ l
  pub short : l < 4294967296

pub sound_change : (g : Graph) (c : Change) → fault_of g c ≡ None → IsSound (arc_count g) c.arc c.length
sound_change g c h =
    let all = both (leb 1 c.arc) (leb c.arc (arc_count g)) (leb 1 c.length) (leb c.length 4294967295) fault.LengthRange fault.ArcRange h in
    let low = leb-true c.length 4294967295 all.3 in
    record {
      first = leb-true 1 c.arc all.0;
      last = leb-true c.arc (arc_count g) all.1;
      positive = leb-true 1 c.length all.2;
      short = omega arith;
    }
