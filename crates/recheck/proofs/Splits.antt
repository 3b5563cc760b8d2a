-- The place of a route's vertex in its path, and the checks across it, told of the places of the trail.
use Rattle.std.proofs.Common.{◌≡◌, ℕ, zero, suc, ◌+◌, ◌-◌, ◌*◌, ◌<◌, ◌≤◌, ◌⊎◌, ◌↔◌, List, [], ◌∷◌, ◌++◌, length, get_or, take, drop, reverse, Some, refl, sym, ap, ◌∙◌, subst, arith, append_assoc, length-append, ⊎_elim, inl, inr, Bool, true, false, None, Option, IsTrue}
use Rattle.std.proofs.lemmas.Bool.{cases_lt, cases_order}
use Rattle.std.proofs.lemmas.List.{take-append-drop, length-drop, length-reverse, reverse-append}
use Rattle.std.proofs.Math.Nat.{mul-le-mul_left}
use Rattle.road_model.specs.declared.trail.Trail.{Trail}
use Rattle.road_model.specs.Graph.{Graph, arc_at, length_at, reversed}
use Rattle.road_model.specs.Walk.{IsWalk}
use Rattle.road_model.specs.Fraction.{Fraction, Allows, IsBelow}
use Rattle.road_model.specs.Places.{places, sums, trail_of, vertex_at, between}
use Rattle.road_model.specs.Tests.{IsTested}
use Rattle.road_model.proofs.Parts.{length-places, length-sums, place_after, sums_low}
use Rattle.forward_star.proofs.Turned.{IsWalk-unreversed}
use Rattle.tree_search.specs.Ball.{IsWithin}
use Rattle.certificate_text.specs.declared.certificate.Block.{Block}
use Rattle.certificate_text.specs.declared.certificate.BlockKind.TheVariants as kind
use Rattle.certificate_text.specs.declared.certificate.BlockRow.{BlockRow}
use Rattle.certificate_text.specs.declared.certificate.CertRoute.{CertRoute}
use Rattle.recheck.specs.Rows.{block_of, Reaches}
use Rattle.recheck.specs.Paths.{Ground, Follows, IsThrough, trail}
use Rattle.recheck.specs.Routes.{EachAcross, IsCovered, IsLocal, IsUnstretched}
use Rattle.recheck.specs.Standing.{LeadsDown, IsSound}
use Rattle.recheck.specs.Across.{IsSplit, IsMeasured, EachBefore, EachAfter, IsCoveredAt, IsLocalAt, IsLowAt}
use Rattle.recheck.proofs.OnePath.{steps_down}
use Rattle.recheck.proofs.FollowLemmas.{Follows-unique}

sums_first : (g : Graph) (k : ℕ) (p : List ℕ) → k ≡ get_or (sums g k p) 0 0
sums_first g k [] = refl
sums_first g k (a ∷ p) = refl

sums_rise : (g : Graph) (k : ℕ) (p : List ℕ) (i j : ℕ) → i ≤ j → j ≤ length p → get_or (sums g k p) i 0 ≤ get_or (sums g k p) j 0
sums_rise g k p zero j le inside =
    subst (λ (x : ℕ). x ≤ get_or (sums g k p) j 0) (sums_first g k p) (sums_low g k p j inside)
sums_rise g k p (suc i) zero le inside = absurd (omega arith)
sums_rise g k [] (suc i) (suc j) le inside = absurd (omega arith)
sums_rise g k (a ∷ p) (suc i) (suc j) le inside =
    sums_rise g (k + length_at g a) p i j (omega arith) (omega arith)

measured_trail : (g : Graph) (u : ℕ) (p : List ℕ) → IsMeasured (trail_of g u p)
measured_trail g u p =
    record {
      count = length-sums g 0 p ∙ sym (length-places g u p);
      rise = (λ i j le lt. let long = length-sums g 0 p in sums_rise g 0 p i j le (omega arith));
    }

pub measured_of : (o : Ground) (r : CertRoute) (t : Trail) → t ≡ trail o r.arcs → IsMeasured t
measured_of o r t is = subst (λ (x : Trail). IsMeasured x) (sym is) (measured_trail o.graph o.query.from r.arcs)

-- what is followed is a walk
walk_of_follows : (h : Graph) (rows : List BlockRow) (root v : ℕ) (p : List ℕ) → LeadsDown h rows root → Follows h rows root v p → IsWalk h v p root
walk_of_follows h rows root v [] down f = f
walk_of_follows h rows root v (a ∷ p) down f =
    let arc : arc_at h f.0.arc ≡ Some f.1 = subst (λ (n : ℕ). arc_at h n ≡ Some f.1) (sym f.3) f.5 in
    let step = steps_down h rows root v f.0 f.1 down f.2 arc in
    (f.1, f.5, step.tail, walk_of_follows h rows root f.1.head p down f.6)

-- what is left of it, from some vertex
record FollowsOn (h : Graph) (rows : List BlockRow) (root : ℕ) (q : List ℕ) : Type 0 where
  from : ℕ
  on : Follows h rows root from q

follows_on : (h : Graph) (rows : List BlockRow) (root v : ℕ) (m q : List ℕ) → Follows h rows root v (m ++ q) → FollowsOn h rows root q
follows_on h rows root v [] q f = record { from = v; on = f }
follows_on h rows root v (a ∷ m) q f = follows_on h rows root f.1.head m q f.6

-- a way to the source, turned round, leads to the vertex that it begins at
vertex_after : (o : Ground) (w : ℕ) (q rest : List ℕ) → IsSound o → Follows (reversed o.graph) o.from_rows o.query.from w q → get_or (places o.graph o.query.from (reverse q ++ rest)) (length q) 0 ≡ w
vertex_after o w q rest sound f =
    let walk : IsWalk o.graph o.query.from (reverse q) w = IsWalk-unreversed o.graph q w o.query.from (walk_of_follows (reversed o.graph) o.from_rows o.query.from w q sound.from f) in
    subst (λ (n : ℕ). get_or (places o.graph o.query.from (reverse q ++ rest)) n 0 ≡ w) (length-reverse q) (place_after o.graph (reverse q) rest o.query.from w walk)

-- the route's vertex is at its place
vertex_here : (o : Ground) (v : ℕ) (p : List ℕ) → IsSound o → (h : IsThrough o v p) → vertex_at (trail o p) (length h.prefix) ≡ v
vertex_here o v p sound h =
    subst (λ (l : List ℕ). vertex_at (trail o l) (length h.prefix) ≡ v) (sym h.joined) (vertex_after o v h.prefix h.back sound h.to_source)

-- and not at an earlier one, since the way from there would be shorter
vertex_once : (o : Ground) (v : ℕ) (m q back : List ℕ) → IsSound o → Follows (reversed o.graph) o.from_rows o.query.from v (m ++ q) → length q < length (m ++ q) → get_or (places o.graph o.query.from (reverse q ++ (reverse m ++ back))) (length q) 0 ≡ v → ⊥
vertex_once o v m q back sound f less at =
    let left = follows_on (reversed o.graph) o.from_rows o.query.from v m q f in
    let same : left.from ≡ v = sym (vertex_after o left.from q (reverse m ++ back) sound left.on) ∙ at in
    let on : Follows (reversed o.graph) o.from_rows o.query.from v q = subst (λ (n : ℕ). Follows (reversed o.graph) o.from_rows o.query.from n q) same left.on in
    let one : length q ≡ length (m ++ q) = ap length (Follows-unique (reversed o.graph) o.from_rows o.query.from v q (m ++ q) on f) in
    omega arith

vertex_not_before : (o : Ground) (v : ℕ) (p : List ℕ) (i : ℕ) → IsSound o → (h : IsThrough o v p) → i < length h.prefix → vertex_at (trail o p) i ≡ v → ⊥
vertex_not_before o v p i sound h before at =
    let n : ℕ = length h.prefix - i in
    let m : List ℕ = take (length h.prefix - i) h.prefix in
    let whole : take (length h.prefix - i) h.prefix ++ drop (length h.prefix - i) h.prefix ≡ h.prefix = take-append-drop (length h.prefix - i) h.prefix in
    let long : length (drop (length h.prefix - i) h.prefix) ≡ i = (let e = length-drop (length h.prefix - i) h.prefix in omega arith) in
    let turned : reverse h.prefix ++ h.back ≡ reverse (drop (length h.prefix - i) h.prefix) ++ (reverse (take (length h.prefix - i) h.prefix) ++ h.back) =
    ap (λ (l : List ℕ). reverse l ++ h.back) (sym whole)
    ∙ ap (λ (l : List ℕ). l ++ h.back) (reverse-append (take (length h.prefix - i) h.prefix) (drop (length h.prefix - i) h.prefix))
    ∙ append_assoc (reverse (drop (length h.prefix - i) h.prefix)) (reverse (take (length h.prefix - i) h.prefix)) h.back in
    let there = subst (λ (l : List ℕ). vertex_at (trail o l) i ≡ v) (h.joined ∙ turned) at in
    let total : length (take (length h.prefix - i) h.prefix ++ drop (length h.prefix - i) h.prefix) ≡ length h.prefix = ap length whole in
    vertex_once o v (take (length h.prefix - i) h.prefix) (drop (length h.prefix - i) h.prefix) h.back sound
    (subst (λ (l : List ℕ). Follows (reversed o.graph) o.from_rows o.query.from v l) (sym whole) h.to_source)
    (omega arith)
    (subst (λ (k : ℕ). get_or (places o.graph o.query.from (reverse (drop (length h.prefix - i) h.prefix) ++ (reverse (take (length h.prefix - i) h.prefix) ++ h.back))) k 0 ≡ v) (sym long) there)

place_inside : (o : Ground) (v : ℕ) (p : List ℕ) → (h : IsThrough o v p) → length h.prefix < length (trail o p).vertices
place_inside o v p h =
    let joined : length p ≡ length (reverse h.prefix ++ h.back) = ap length h.joined in
    let parts = length-append (reverse h.prefix) h.back in
    let front : length (reverse h.prefix) ≡ length h.prefix = length-reverse h.prefix in
    let all = length-places o.graph o.query.from p in
    omega arith

-- no place up to k has the vertex
abbrev pub NoneHas : Trail → ℕ → ℕ → Type 0
NoneHas t v k = (i : ℕ) → i < k → vertex_at t i ≡ v → ⊥

-- the first place that has the route's vertex
first_place : (o : Ground) (v : ℕ) (p : List ℕ) (k : ℕ) → IsSound o → (h : IsThrough o v p) → NoneHas (trail o p) v k → vertex_at (trail o p) k ≡ v → length h.prefix ≡ k
first_place o v p k sound h past at =
    ⊎_elim
    (λ (same : length h.prefix ≡ k). same)
    (λ (other : (length h.prefix < k) ⊎ (k < length h.prefix)).
    ⊎_elim
    (λ (before : length h.prefix < k). absurd (past (length h.prefix) before (vertex_here o v p sound h)))
    (λ (beyond : k < length h.prefix). absurd (vertex_not_before o v p k sound h beyond at))
    other)
    (cases_order (length h.prefix) k)

pub split_at : (o : Ground) (r : CertRoute) (t : Trail) (k : ℕ) → IsSound o → t ≡ trail o r.arcs → IsThrough o r.via r.arcs → k < length t.vertices → NoneHas t r.via k → vertex_at t k ≡ r.via → IsSplit o r t k
split_at o r t k sound is through inside past at =
    record {
      path = is;
      through = through;
      place = (λ h. first_place o r.via r.arcs k sound h (subst (λ (x : Trail). NoneHas x r.via k) is past) (subst (λ (x : Trail). vertex_at x k ≡ r.via) is at));
      inside = inside;
    }

pub some_place : (o : Ground) (r : CertRoute) (t : Trail) (k : ℕ) → IsSound o → t ≡ trail o r.arcs → IsThrough o r.via r.arcs → length t.vertices ≤ k → NoneHas t r.via k → ⊥
some_place o r t k sound is through end past =
    let same : length t.vertices ≡ length (trail o r.arcs).vertices = ap (λ (x : Trail). length x.vertices) is in
    let inside = place_inside o r.via r.arcs through in
    past (length through.prefix) (omega arith)
    (subst (λ (x : Trail). vertex_at x (length through.prefix) ≡ r.via) (sym is) (vertex_here o r.via r.arcs sound through))

-- one place more than arcs
places_of_split : (o : Ground) (r : CertRoute) (t : Trail) (k : ℕ) → IsSplit o r t k → length t.vertices ≡ length r.arcs + 1
places_of_split o r t k s = ap (λ (x : Trail). length x.vertices) s.path ∙ length-places o.graph o.query.from r.arcs

pub across_split : (o : Ground) (r : CertRoute) (t : Trail) (k : ℕ) (P : Trail → ℕ → ℕ → Type 0) → IsSplit o r t k → EachBefore k (λ i. EachAfter k (length t.vertices) (P t i)) ↔ EachAcross o r (P (trail o r.arcs))
across_split o r t k P s =
    let long : length t.vertices ≡ length r.arcs + 1 = places_of_split o r t k s in (
      (λ all h i j before beyond inside.
          let place : length h.prefix ≡ k = s.place h in
          subst (λ (x : Trail). P x i j) s.path (all i (omega arith) j (omega arith) (omega arith))),
      (λ all i before j beyond inside.
          let place : length s.through.prefix ≡ k = s.place s.through in
          subst (λ (x : Trail). P x i j) (sym s.path) (all s.through i j (omega arith) (omega arith) (omega arith))),
    )

pub local_split : (o : Ground) (r : CertRoute) (t : Trail) (k : ℕ) → IsSplit o r t k → EachBefore k (λ i. EachAfter k (length t.vertices) (IsLocalAt o t i)) ↔ IsLocal o r
local_split o r t k s = across_split o r t k (λ x i j. IsLocalAt o x i j) s

pub unstretched_split : (o : Ground) (r : CertRoute) (t : Trail) (k : ℕ) → IsSplit o r t k → EachBefore k (λ i. EachAfter k (length t.vertices) (IsLowAt o t i)) ↔ IsUnstretched o r
unstretched_split o r t k s =
    let both = across_split o r t k (λ x i j. IsLowAt o x i j) s in (
      (λ all h i j before beyond inside. let low = both.0 all h i j before beyond inside in record { row = low.row; is = low.is; low = low.low }),
      (λ all. both.1 (λ h i j before beyond inside. let low = all h i j before beyond inside in record { row = low.row; is = low.is; low = low.low })),
    )

abbrev ReachesFrom : Ground → ℕ → Trail → ℕ → Type 0
ReachesFrom o n x i = Reaches o.blocks kind.From (vertex_at x i) (λ m. m ≤ between x i n)

pub covered_split : (o : Ground) (r : CertRoute) (t : Trail) (k : ℕ) → IsSplit o r t k → EachBefore k (IsCoveredAt o t) ↔ IsCovered o r
covered_split o r t k s =
    let long : length t.vertices ≡ length r.arcs + 1 = places_of_split o r t k s in
    let last : length t.vertices - 1 ≡ length r.arcs = omega arith in (
      (λ all h i before.
          let place : length h.prefix ≡ k = s.place h in
          subst (λ (x : Trail). ReachesFrom o (length r.arcs) x i) s.path (subst (λ (n : ℕ). ReachesFrom o n t i) last (all i (omega arith)))),
      (λ all i before.
          let place : length s.through.prefix ≡ k = s.place s.through in
          subst (λ (n : ℕ). ReachesFrom o n t i) (sym last) (subst (λ (x : Trail). ReachesFrom o (length r.arcs) x i) (sym s.path) (all s.through i (omega arith)))),
    )

-- a longer subpath is tested only where a shorter one is
pub tested_before : (f : Fraction) (l : ℕ) (t : Trail) (i j k : ℕ) → IsMeasured t → i + 2 ≤ j → j ≤ k → k < length t.vertices → IsTested f l t i k → IsTested f l t i j
tested_before f l t i j k m apart le inside h =
    let count = m.count in
    let far = m.rise j k le (omega arith) in
    let near = m.rise (j - 1) (k - 1) (omega arith) (omega arith) in
    let outer : between t i j ≤ between t i k = omega arith in
    let inner : between t (i + 1) (j - 1) ≤ between t (i + 1) (k - 1) = omega arith in
    ⊎_elim
    (λ (allowed : Allows f (between t i k) l).
    let less : f.den * between t i j ≤ f.den * between t i k = mul-le-mul_left f.den outer in
    let yes : IsTested f l t i j = inl (omega arith) in yes)
    (λ (below : (i + 2 ≤ k) × IsBelow f (between t (i + 1) (k - 1)) l).
    let less : f.den * between t (i + 1) (j - 1) ≤ f.den * between t (i + 1) (k - 1) = mul-le-mul_left f.den inner in
    let low : IsBelow f (between t (i + 1) (k - 1)) l = below.1 in
    let yes : IsTested f l t i j = inr (apart, omega arith) in yes)
    h

-- so where one isn't tested, none of the longer ones is, and all there is to ask was asked
pub local_up_to : (o : Ground) (t : Trail) (i via k : ℕ) → IsMeasured t → i < via → via < k → EachAfter via k (IsLocalAt o t i) → (IsTested o.query.alpha o.best t i k → ⊥) → EachAfter via (length t.vertices) (IsLocalAt o t i)
local_up_to o t i via k m before beyond all untested j far inside tested =
    ⊎_elim
    (λ (low : j < k). all j far low tested)
    (λ (high : k ≤ j). absurd (untested (tested_before o.query.alpha o.best t i k j m (omega arith) high inside tested)))
    (cases_lt j k)

-- a block that is there reaches to the path's end where its radius allows it
pub reaches_limit : (o : Ground) (t : Trail) (i v m n radius : ℕ) (b : Block) → Some b ≡ block_of o.blocks kind.From v → b.radius ≡ Some radius → v ≡ vertex_at t i → m ≡ length t.vertices → n ≡ between t i (m - 1) → (n ≤ radius) ↔ IsCoveredAt o t i
reaches_limit o t i v m n radius b found is at count long =
    let here : Some b ≡ block_of o.blocks kind.From (vertex_at t i) = found ∙ ap (λ (w : ℕ). block_of o.blocks kind.From w) at in
    let whole : n ≡ between t i (length t.vertices - 1) = long ∙ ap (λ (k : ℕ). between t i (k - 1)) count in (
      (λ le. record {
        block = b;
        is = sym here;
        room = (λ k less. subst (λ (x : Option ℕ). IsWithin x k) (sym is) (omega arith));
      }),
      (λ c.
          let there : Some b ≡ Some c.block = here ∙ c.is in
          let same : c.block ≡ b = cc in
          let within : IsWithin c.block.radius n = c.room n (omega arith) in
          subst (λ (x : Option ℕ). IsWithin x n) (ap (λ (x : Block). x.radius) same ∙ is) within),
    )

pub reaches_all : (o : Ground) (t : Trail) (i v : ℕ) (b : Block) → Some b ≡ block_of o.blocks kind.From v → b.radius ≡ None → v ≡ vertex_at t i → IsCoveredAt o t i
reaches_all o t i v b found is at =
    record {
      block = b;
      is = sym (found ∙ ap (λ (w : ℕ). block_of o.blocks kind.From w) at);
      room = (λ k less. subst (λ (x : Option ℕ). IsWithin x k) (sym is) tt);
    }

-- what a loop over all places tells, at a place that fails and at the end
pub each_no : (k i : ℕ) (P : ℕ → Type 0) (W : Type 0) (b : Bool) → EachBefore k P ↔ W → i < k → IsTrue b ↔ P i → b ≡ false → IsTrue false ↔ W
each_no k i P W b both before told is = (
  (λ no. absurd (let e : false ≡ true = no in cc)),
  (λ all. absurd (let yes : b ≡ true = told.1 (both.1 all i before) in cc)),
)

pub each_yes : (k n : ℕ) (P : ℕ → Type 0) (W : Type 0) → EachBefore k P ↔ W → k ≤ n → EachBefore n P → IsTrue true ↔ W
each_yes k n P W both le all = ((λ _. both.0 (λ i before. all i (omega arith))), (λ _. refl))
