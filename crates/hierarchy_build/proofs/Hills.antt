-- The distances of a graph are those over hills.
use Rattle.std.proofs.Common.{◌≡◌, ◌≢◌, ◌+◌, ◌<◌, ◌≤◌, ◌⊎◌, ℕ, List, [], ◌∷◌, ◌++◌, Option, Some, None, refl, sym, ap, ◌∙◌, subst, arith, inl, inr, ⊎_elim}
use Rattle.std.proofs.lemmas.Bool.{cases_lt}
use Rattle.road_model.specs.declared.rows.ArcRow.{ArcRow}
use Rattle.road_model.specs.Graph.{Graph, length_at, row_length, IsVertex}
use Rattle.road_model.specs.Walk.{IsWalk, walk_length}
use Rattle.road_model.specs.Dist.{HasWalk, IsDist, DistsBelow, NoneShorter}
use Rattle.road_model.proofs.Walks.{IsWalk-append, walk_length-append}
use Rattle.road_model.proofs.Basics.{same_or_other}
use Rattle.hierarchy_build.specs.Hills.{IsRise, rise_length, Hill, HillWithin, HasHill, NoneLower, Within, IsHillDist, HasTriangles, IsSound, Covers, HasHills, HasHillDists}

pub IsRise-push : (L : ℕ → ℕ → ℕ → Type 0) (p : List (ℕ × ℕ)) (a b c x : ℕ) → IsRise L a p b → L b c x → IsRise L a (p ++ (c, x) ∷ []) c
IsRise-push L [] a b c x rise link = (subst (λ (n : ℕ). L n c x) (sym rise) link, refl)
IsRise-push L (s ∷ p) a b c x rise link = (rise.0, IsRise-push L p s.0 b c x rise.1 link)

pub rise_length-push : (p : List (ℕ × ℕ)) (c x : ℕ) → rise_length (p ++ (c, x) ∷ []) ≡ rise_length p + x
rise_length-push [] c x = omega arith
rise_length-push (s ∷ p) c x = omega (arith, rise_length-push p c x)

-- equal, below or above
pub record Ordered (a b : ℕ) : Type 0 where
  pub cases : (a < b) ⊎ ((a ≡ b) ⊎ (b < a))

pub ordered : (a b : ℕ) → Ordered a b
ordered a b =
    ⊎_elim
    (λ (lt : a < b). let r : Ordered a b = record { cases = inl lt } in r)
    (λ (ge : b ≤ a).
    ⊎_elim
    (λ (gt : b < a). let r : Ordered a b = record { cases = inr (inr gt) } in r)
    (λ (le : a ≤ b). let same : a ≡ b = omega arith in let r : Ordered a b = record { cases = inr (inl same) } in r)
    (cases_lt b a))
    (cases_lt a b)

-- a link down to the foot of a hill, put before it: again a hill, and no longer
pub merge : (cap : ℕ) (U D : ℕ → ℕ → ℕ → Type 0) → HasTriangles cap U D → (p q : List (ℕ × ℕ)) (a b m v x : ℕ) → D b a x → IsRise U b p m → IsRise D v q m → x + (rise_length p + rise_length q) < cap → HillWithin U D a v (x + (rise_length p + rise_length q))
merge cap U D t [] q a b m v x link rise fall low =
    let meets : D m a x = subst (λ (n : ℕ). D n a x) rise link in
    record {
      hill = record { top = a; rise = []; fall = q ++ (a, x) ∷ []; is_rise = refl; is_fall = IsRise-push D q v m a x fall meets };
      within = omega (arith, rise_length-push q a x);
    }
merge cap U D t (s ∷ p) q a b m v x link rise fall low =
    ⊎_elim
    (λ (lt : a < s.0).
    let third : Within U a s.0 (x + s.1) = t.up a b s.0 x s.1 link rise.0 lt (omega arith) in
    let less : third.long + rise_length p + rise_length q ≤ x + (s.1 + rise_length p + rise_length q) = omega arith in
    let r : HillWithin U D a v (x + (s.1 + rise_length p + rise_length q)) = record {
      hill = record { top = m; rise = (s.0, third.long) ∷ p; fall = q; is_rise = (third.link, rise.1); is_fall = fall };
      within = less;
    } in r)
    (λ (rest : (a ≡ s.0) ⊎ (s.0 < a)).
    ⊎_elim
    (λ (same : a ≡ s.0).
    let from : IsRise U a p m = subst (λ (n : ℕ). IsRise U n p m) (sym same) rise.1 in
    let less : rise_length p + rise_length q ≤ x + (s.1 + rise_length p + rise_length q) = omega arith in
    let r : HillWithin U D a v (x + (s.1 + rise_length p + rise_length q)) = record {
      hill = record { top = m; rise = p; fall = q; is_rise = from; is_fall = fall };
      within = less;
    } in r)
    (λ (gt : s.0 < a).
    let third : Within D s.0 a (x + s.1) = t.down a b s.0 x s.1 link rise.0 gt (omega arith) in
    let short : third.long ≤ x + s.1 = third.within in
    let below : third.long + (rise_length p + rise_length q) < cap = omega arith in
    let found : HillWithin U D a v (third.long + (rise_length p + rise_length q)) = merge cap U D t p q a s.0 m v third.long third.link rise.1 fall below in
    let less : rise_length found.hill.rise + rise_length found.hill.fall ≤ x + (s.1 + rise_length p + rise_length q) = omega (arith, found.within) in
    let r : HillWithin U D a v (x + (s.1 + rise_length p + rise_length q)) = record { hill = found.hill; within = less } in r)
    rest)
    ((ordered a s.0).cases)

-- each walk below the cap has a hill that isn't longer
pub hill_of_walk : (cap : ℕ) (g : Graph) (rank : ℕ → ℕ) (U D : ℕ → ℕ → ℕ → Type 0) → HasTriangles cap U D → Covers g rank U D → (p : List ℕ) (u v : ℕ) → IsWalk g u p v → walk_length g p < cap → HillWithin U D (rank u) (rank v) (walk_length g p)
hill_of_walk cap g rank U D t covers [] u v walk low =
    record {
      hill = record { top = rank v; rise = []; fall = []; is_rise = ap rank walk; is_fall = refl };
      within = omega arith;
    }
hill_of_walk cap g rank U D t covers (a ∷ p) u v walk low =
    let r : ArcRow = walk.0 in
    let is : length_at g a ≡ walk.0.length = ap row_length walk.1 in
    let rest : HillWithin U D (rank walk.0.head) (rank v) (walk_length g p) = hill_of_walk cap g rank U D t covers p walk.0.head v walk.3 (omega arith) in
    let short = rest.within in
    ⊎_elim
    (λ (there : (walk.0.tail ≡ walk.0.head)).
    let same : rank walk.0.head ≡ rank u = ap rank (sym there ∙ walk.2) in
    let found : HillWithin U D (rank u) (rank v) (walk_length g p) = subst (λ (n : ℕ). HillWithin U D n (rank v) (walk_length g p)) same rest in
    let less : rise_length found.hill.rise + rise_length found.hill.fall ≤ length_at g a + walk_length g p = omega (arith, found.within) in
    let r : HillWithin U D (rank u) (rank v) (length_at g a + walk_length g p) = record { hill = found.hill; within = less } in r)
    (λ (other : walk.0.tail ≢ walk.0.head).
    ⊎_elim
    (λ (up : Within U (rank walk.0.tail) (rank walk.0.head) walk.0.length).
    let link : U (rank u) (rank walk.0.head) up.long = subst (λ (n : ℕ). U (rank n) (rank walk.0.head) up.long) walk.2 up.link in
    let less : up.long + rise_length rest.hill.rise + rise_length rest.hill.fall ≤ length_at g a + walk_length g p = omega (arith, up.within) in
    let r : HillWithin U D (rank u) (rank v) (length_at g a + walk_length g p) = record {
      hill = record { top = rest.hill.top; rise = (rank walk.0.head, up.long) ∷ rest.hill.rise; fall = rest.hill.fall; is_rise = (link, rest.hill.is_rise); is_fall = rest.hill.is_fall };
      within = less;
    } in r)
    (λ (down : Within D (rank walk.0.head) (rank walk.0.tail) walk.0.length).
    let link : D (rank walk.0.head) (rank u) down.long = subst (λ (n : ℕ). D (rank walk.0.head) (rank n) down.long) walk.2 down.link in
    let below : down.long + (rise_length rest.hill.rise + rise_length rest.hill.fall) < cap = omega (arith, down.within) in
    let found : HillWithin U D (rank u) (rank v) (down.long + (rise_length rest.hill.rise + rise_length rest.hill.fall)) =
    merge cap U D t rest.hill.rise rest.hill.fall (rank u) (rank walk.0.head) rest.hill.top (rank v) down.long link rest.hill.is_rise rest.hill.is_fall below in
    let less : rise_length found.hill.rise + rise_length found.hill.fall ≤ length_at g a + walk_length g p = omega (arith, found.within, down.within) in
    let r : HillWithin U D (rank u) (rank v) (length_at g a + walk_length g p) = record { hill = found.hill; within = less } in r)
    (covers a walk.0 walk.1 other))
    (same_or_other walk.0.tail walk.0.head)

pub hills_of_walks : (cap : ℕ) (g : Graph) (rank : ℕ → ℕ) (U D : ℕ → ℕ → ℕ → Type 0) → HasTriangles cap U D → Covers g rank U D → HasHills cap g rank U D
hills_of_walks cap g rank U D t covers u v p is_u is_v walk low = hill_of_walk cap g rank U D t covers p u v walk low

pub HasWalk-joined : (g : Graph) (u v w j k : ℕ) → HasWalk g u v j → HasWalk g v w k → HasWalk g u w (j + k)
HasWalk-joined g u v w j k h i =
    record {
      path = h.path ++ i.path;
      walk = IsWalk-append g h.path i.path u v w h.walk i.walk;
      long = omega (arith, walk_length-append g h.path i.path, h.long, i.long);
    }

pub walk_up : (g : Graph) (name : ℕ → ℕ) (U D : ℕ → ℕ → ℕ → Type 0) → IsSound g name U D → (p : List (ℕ × ℕ)) (a b : ℕ) → IsRise U a p b → HasWalk g (name a) (name b) (rise_length p)
walk_up g name U D sound [] a b rise = record { path = []; walk = ap name rise; long = refl }
walk_up g name U D sound (s ∷ p) a b rise =
    HasWalk-joined g (name a) (name s.0) (name b) s.1 (rise_length p) (sound.up a s.0 s.1 rise.0) (walk_up g name U D sound p s.0 b rise.1)

pub walk_down : (g : Graph) (name : ℕ → ℕ) (U D : ℕ → ℕ → ℕ → Type 0) → IsSound g name U D → (p : List (ℕ × ℕ)) (a b : ℕ) → IsRise D a p b → HasWalk g (name b) (name a) (rise_length p)
walk_down g name U D sound [] a b rise = record { path = []; walk = ap name (sym rise); long = refl }
walk_down g name U D sound (s ∷ p) a b rise =
    let w : HasWalk g (name b) (name a) (rise_length p + s.1) = HasWalk-joined g (name b) (name s.0) (name a) (rise_length p) s.1 (walk_down g name U D sound p s.0 b rise.1) (sound.down a s.0 s.1 rise.0) in
    let turned : rise_length p + s.1 ≡ s.1 + rise_length p = omega arith in
    subst (λ (n : ℕ). HasWalk g (name b) (name a) n) turned w

pub walk_of_hill : (g : Graph) (name : ℕ → ℕ) (U D : ℕ → ℕ → ℕ → Type 0) → IsSound g name U D → (a b : ℕ) (h : Hill U D a b) → HasWalk g (name a) (name b) (rise_length h.rise + rise_length h.fall)
walk_of_hill g name U D sound a b h =
    HasWalk-joined g (name a) (name h.top) (name b) (rise_length h.rise) (rise_length h.fall) (walk_up g name U D sound h.rise a h.top h.is_rise) (walk_down g name U D sound h.fall b h.top h.is_fall)

-- what a hill and a walk say of one another, between two vertices
record Meets (cap : ℕ) (g : Graph) (U D : ℕ → ℕ → ℕ → Type 0) (u v a b : ℕ) : Type 0 where
  walk : (h : Hill U D a b) → HasWalk g u v (rise_length h.rise + rise_length h.fall)
  hill : (p : List ℕ) → IsWalk g u p v → walk_length g p < cap → HillWithin U D a b (walk_length g p)
  below : (p : List ℕ) → IsWalk g u p v → NoneShorter g u v cap → ⊥

-- where no hill is below the cap, no walk is
none_below : (cap : ℕ) (g : Graph) (U D : ℕ → ℕ → ℕ → Type 0) (u v a b : ℕ) → Meets cap g U D u v a b → NoneLower U D a b cap → NoneShorter g u v cap
none_below cap g U D u v a b m none q walk =
    ⊎_elim
    (λ (lt : walk_length g q < cap).
    let found : HillWithin U D a b (walk_length g q) = m.hill q walk lt in
    let high : cap ≤ rise_length found.hill.rise + rise_length found.hill.fall = none found.hill in
    let less = found.within in
    let r : cap ≤ walk_length g q = omega arith in r)
    (λ (ge : cap ≤ walk_length g q). ge)
    (cases_lt (walk_length g q) cap)

dist_below : (cap : ℕ) (g : Graph) (U D : ℕ → ℕ → ℕ → Type 0) (u v a b k : ℕ) → Meets cap g U D u v a b → HasWalk g u v k → NoneShorter g u v k → k < cap
dist_below cap g U D u v a b k m h none =
    ⊎_elim
    (λ (lt : k < cap). lt)
    (λ (ge : cap ≤ k). absurd (m.below h.path h.walk (λ q walk. let low : k ≤ walk_length g q = none q walk in omega arith)))
    (cases_lt k cap)

hill_below : (cap : ℕ) (g : Graph) (U D : ℕ → ℕ → ℕ → Type 0) (u v a b k : ℕ) → Meets cap g U D u v a b → HasHill U D a b k → NoneLower U D a b k → k < cap
hill_below cap g U D u v a b k m h none =
    ⊎_elim
    (λ (lt : k < cap). lt)
    (λ (ge : cap ≤ k).
    let w : HasWalk g u v (rise_length h.hill.rise + rise_length h.hill.fall) = m.walk h.hill in
    absurd (m.below w.path w.walk (none_below cap g U D u v a b m (λ i. let low : k ≤ rise_length i.rise + rise_length i.fall = none i in omega arith))))
    (cases_lt k cap)

to_hills : (cap : ℕ) (g : Graph) (U D : ℕ → ℕ → ℕ → Type 0) (u v a b : ℕ) (d : Option ℕ) → Meets cap g U D u v a b → IsDist g u v d → IsHillDist cap U D a b d
to_hills cap g U D u v a b None m h = λ i. absurd (h ((m.walk i).path) ((m.walk i).walk))
to_hills cap g U D u v a b (Some k) m h =
    let low : k < cap = dist_below cap g U D u v a b k m h.0 h.1 in
    let is : walk_length g h.0.path ≡ k = h.0.long in
    let found : HillWithin U D a b (walk_length g h.0.path) = m.hill h.0.path h.0.walk (omega arith) in
    let each : NoneLower U D a b k = λ i. (let w : HasWalk g u v (rise_length i.rise + rise_length i.fall) = m.walk i in let long = w.long in let less : k ≤ walk_length g w.path = h.1 w.path w.walk in omega arith) in
    let high : k ≤ rise_length found.hill.rise + rise_length found.hill.fall = each found.hill in
    let less = found.within in
    (record { hill = found.hill; long = omega arith }, each)

from_hills : (cap : ℕ) (g : Graph) (U D : ℕ → ℕ → ℕ → Type 0) (u v a b : ℕ) (d : Option ℕ) → Meets cap g U D u v a b → IsHillDist cap U D a b d → IsDist g u v d
from_hills cap g U D u v a b None m h = λ p walk. m.below p walk (none_below cap g U D u v a b m h)
from_hills cap g U D u v a b (Some k) m h =
    let low : k < cap = hill_below cap g U D u v a b k m h.0 h.1 in
    let w : HasWalk g u v (rise_length h.0.hill.rise + rise_length h.0.hill.fall) = m.walk h.0.hill in
    let none : NoneShorter g u v k = λ q walk. (
    ⊎_elim
    (λ (lt : walk_length g q < cap).
    let found : HillWithin U D a b (walk_length g q) = m.hill q walk lt in
    let high : k ≤ rise_length found.hill.rise + rise_length found.hill.fall = h.1 found.hill in
    let less = found.within in
    let r : k ≤ walk_length g q = omega arith in r)
    (λ (ge : cap ≤ walk_length g q). let r : k ≤ walk_length g q = omega arith in r)
    (cases_lt (walk_length g q) cap)) in
    (subst (λ (n : ℕ). HasWalk g u v n) h.0.long w, none)

pub hills_have_dists : (cap : ℕ) (g : Graph) (name rank : ℕ → ℕ) (U D : ℕ → ℕ → ℕ → Type 0) → ((v : ℕ) → IsVertex g.vertices v → name (rank v) ≡ v) → HasHills cap g rank U D → IsSound g name U D → DistsBelow g cap → HasHillDists cap g rank U D
hills_have_dists cap g name rank U D back hills sound below u v d is_u is_v =
    let m : Meets cap g U D u v (rank u) (rank v) = record {
      walk = (λ h.
          subst (λ (n : ℕ). HasWalk g n v (rise_length h.rise + rise_length h.fall)) (back u is_u)
          (subst (λ (n : ℕ). HasWalk g (name (rank u)) n (rise_length h.rise + rise_length h.fall)) (back v is_v)
          (walk_of_hill g name U D sound (rank u) (rank v) h)));
      hill = (λ p walk low. hills u v p is_u is_v walk low);
      below = (λ p walk none. below u v p walk none);
    } in
    (to_hills cap g U D u v (rank u) (rank v) d m, from_hills cap g U D u v (rank u) (rank v) d m)
