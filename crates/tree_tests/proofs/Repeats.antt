-- Walks without a repeated arc: a shortest one, and one whose stretch is bounded. What such a walk carries is what
-- it shares.
use Rattle.std.proofs.Common.{◌≡◌, ℕ, ◌+◌, ◌*◌, ◌<◌, ◌≤◌, ◌⊎◌, ◌==◌, ◌||◌, Bool, true, false, cond, List, [], ◌∷◌, ◌++◌, length, Some, refl, sym, ap, ◌∙◌, subst, arith, inl, inr, ⊎_elim, length-append}
use Rattle.std.specs.List.{list_any}
use Rattle.std.proofs.Math.Nat.{mul-le-mul_right}
use Rattle.std.proofs.lemmas.Bool.{cases_eq, cond-true, cond-false, eq-eqb, ne_eqb}
use Rattle.std.proofs.lemmas.List.Sums.{sum_by-cons}
use Rattle.road_model.specs.declared.answer.Query.{Query}
use Rattle.road_model.specs.Graph.{Graph, IsGraph, length_at}
use Rattle.road_model.specs.Walk.{IsWalk, walk_length}
use Rattle.road_model.specs.Dist.{IsDist, IsShortest}
use Rattle.road_model.specs.Canonical.{IsFirst}
use Rattle.road_model.specs.Fraction.{Fraction, Allows, IsAbove}
use Rattle.road_model.specs.Places.{trail_of, vertex_at, between, IsDistAt}
use Rattle.road_model.specs.Tests.{shared, FailsStretch, NoneFails}
use Rattle.road_model.specs.Alternatives.{IsAdmissible}
use Rattle.road_model.proofs.Walks.{Cut, cut, IsWalk-append, IsWalk-start, walk_length-append, walk_length-positive}
use Rattle.road_model.proofs.Dists.{IsDist-itself}
use Rattle.road_model.proofs.Parts.{length-places, place_after, between_pieces, place_pieces}
use Rattle.tree_tests.specs.Sums.{weight_on, carried}

abbrev pub Distinct : List ℕ → Type 0
Distinct [] = Unit {0}
Distinct (a ∷ p) = (list_any (λ b. b == a) p ≡ false) × Distinct p

pub record HasRepeat (p : List ℕ) : Type 0 where
  pub arc : ℕ
  pub prefix : List ℕ
  pub middle : List ℕ
  pub back : List ℕ
  pub is : p ≡ prefix ++ (arc ∷ (middle ++ (arc ∷ back)))

record HasArc (a : ℕ) (p : List ℕ) : Type 0 where
  prefix : List ℕ
  back : List ℕ
  is : p ≡ prefix ++ (a ∷ back)

has_or_not : (a : ℕ) (p : List ℕ) → HasArc a p ⊎ (list_any (λ b. b == a) p ≡ false)
has_or_not a [] = inr refl
has_or_not a (b ∷ p) =
    ⊎_elim
    (λ (same : b ≡ a). inl (record { prefix = []; back = p; is = ap (λ (x : ℕ). x ∷ p) same }))
    (λ (other : b ≡ a → ⊥).
    ⊎_elim
    (λ (later : HasArc a p). inl (record { prefix = b ∷ later.prefix; back = later.back; is = ap (λ (l : List ℕ). b ∷ l) later.is }))
    (λ (none : list_any (λ x. x == a) p ≡ false). inr (ap (λ (x : Bool). x || list_any (λ y. y == a) p) (ne_eqb b a other) ∙ none))
    (has_or_not a p))
    (cases_eq b a)

pub distinct_or_not : (p : List ℕ) → Distinct p ⊎ HasRepeat p
distinct_or_not [] = inl tt
distinct_or_not (a ∷ p) =
    ⊎_elim
    (λ (here : HasArc a p). inr (record { arc = a; prefix = []; middle = here.prefix; back = here.back; is = ap (λ (l : List ℕ). a ∷ l) here.is }))
    (λ (none : list_any (λ b. b == a) p ≡ false).
    ⊎_elim
    (λ (rest : Distinct p). inl (none, rest))
    (λ (later : HasRepeat p). inr (record { arc = later.arc; prefix = a ∷ later.prefix; middle = later.middle; back = later.back; is = ap (λ (l : List ℕ). a ∷ l) later.is }))
    (distinct_or_not p))
    (has_or_not a p)

-- a repeated arc closes a piece of the walk
record Closed (g : Graph) (u : ℕ) (h a b k : List ℕ) (v : ℕ) : Type 0 where
  vertex : ℕ
  before : IsWalk g u h vertex
  piece : IsWalk g vertex a vertex
  beyond : IsWalk g vertex b v

closed : (g : Graph) (u v : ℕ) (p : List ℕ) (h : HasRepeat p) → IsWalk g u p v → Closed g u h.prefix (h.arc ∷ h.middle) (h.arc ∷ h.back) h.back v
closed g u v p h walk =
    let one : Cut g u h.prefix (h.arc ∷ (h.middle ++ (h.arc ∷ h.back))) v = cut g h.prefix (h.arc ∷ (h.middle ++ (h.arc ∷ h.back))) u v (subst (λ (l : List ℕ). IsWalk g u l v) h.is walk) in
    let two : Cut g one.middle (h.arc ∷ h.middle) (h.arc ∷ h.back) v = cut g (h.arc ∷ h.middle) (h.arc ∷ h.back) one.middle v one.back in
    let same : two.middle ≡ one.middle = IsWalk-start g h.arc h.back h.middle two.middle v one.middle two.middle two.back two.prefix in
    record {
      vertex = one.middle;
      before = one.prefix;
      piece = subst (λ (x : ℕ). IsWalk g one.middle (h.arc ∷ h.middle) x) same two.prefix;
      beyond = subst (λ (x : ℕ). IsWalk g x (h.arc ∷ h.back) v) same two.back;
    }

pub shortest_is_distinct : (g : Graph) (u v : ℕ) (p : List ℕ) → IsGraph g → IsShortest g u p v → Distinct p
shortest_is_distinct g u v p sound short =
    ⊎_elim
    (λ (yes : Distinct p). yes)
    (λ (h : HasRepeat p).
    let c = closed g u v p h short.walk in
    let some : 1 ≤ walk_length g (h.arc ∷ h.middle) = walk_length-positive g h.arc h.middle c.vertex c.vertex sound c.piece in
    let whole : walk_length g p ≡ walk_length g (h.prefix ++ ((h.arc ∷ h.middle) ++ (h.arc ∷ h.back))) = ap (λ (l : List ℕ). walk_length g l) h.is in
    let other : walk_length g p ≤ walk_length g (h.prefix ++ (h.arc ∷ h.back)) = short.least (h.prefix ++ (h.arc ∷ h.back)) (IsWalk-append g h.prefix (h.arc ∷ h.back) u c.vertex v c.before c.beyond) in
    let parts = walk_length-append g h.prefix ((h.arc ∷ h.middle) ++ (h.arc ∷ h.back)) in
    let pieces = walk_length-append g (h.arc ∷ h.middle) (h.arc ∷ h.back) in
    let less = walk_length-append g h.prefix (h.arc ∷ h.back) in
    absurd (omega (arith, some, whole, other, parts, pieces, less)))
    (distinct_or_not p)

product_above : (den num n : ℕ) → 1 ≤ den → 1 ≤ n → (den + num) * 0 < n * den
product_above den num n some more =
    let part : 1 * den ≤ n * den = mul-le-mul_right den more in
    omega arith

pub bounded_is_distinct : (g : Graph) (eps : Fraction) (u v : ℕ) (p : List ℕ) → IsGraph g → 1 ≤ eps.den → IsWalk g u p v → NoneFails (FailsStretch g eps (trail_of g u p)) → Distinct p
bounded_is_distinct g eps u v p sound den walk bounded =
    ⊎_elim
    (λ (yes : Distinct p). yes)
    (λ (h : HasRepeat p).
    let c = closed g u v p h walk in
    let a = h.prefix in
    let b = h.arc ∷ h.middle in
    let k = h.arc ∷ h.back in
    let is : p ≡ h.prefix ++ ((h.arc ∷ h.middle) ++ (h.arc ∷ h.back)) = h.is in
    let some : 1 ≤ walk_length g (h.arc ∷ h.middle) = walk_length-positive g h.arc h.middle c.vertex c.vertex sound c.piece in
    let i = length h.prefix in
    let j = length h.prefix + length (h.arc ∷ h.middle) in
    let long : between (trail_of g u p) (length h.prefix) (length h.prefix + length (h.arc ∷ h.middle)) ≡ walk_length g (h.arc ∷ h.middle) =
    subst (λ (l : List ℕ). between (trail_of g u l) (length h.prefix) (length h.prefix + length (h.arc ∷ h.middle)) ≡ walk_length g (h.arc ∷ h.middle)) (sym is) (between_pieces g u h.prefix (h.arc ∷ h.middle) (h.arc ∷ h.back)) in
    let first : vertex_at (trail_of g u p) (length h.prefix) ≡ c.vertex =
    subst (λ (l : List ℕ). vertex_at (trail_of g u l) (length h.prefix) ≡ c.vertex) (sym is) (place_after g h.prefix ((h.arc ∷ h.middle) ++ (h.arc ∷ h.back)) u c.vertex c.before) in
    let last : vertex_at (trail_of g u p) (length h.prefix + length (h.arc ∷ h.middle)) ≡ c.vertex =
    subst (λ (l : List ℕ). vertex_at (trail_of g u l) (length h.prefix + length (h.arc ∷ h.middle)) ≡ c.vertex) (sym is) (place_pieces g u c.vertex c.vertex h.prefix (h.arc ∷ h.middle) (h.arc ∷ h.back) c.before c.piece) in
    let dist : IsDistAt g (trail_of g u p) (length h.prefix) (length h.prefix + length (h.arc ∷ h.middle)) 0 =
    subst (λ (x : ℕ). IsDist g x (vertex_at (trail_of g u p) (length h.prefix + length (h.arc ∷ h.middle))) (Some 0)) (sym first)
    (subst (λ (x : ℕ). IsDist g c.vertex x (Some 0)) (sym last) (IsDist-itself g c.vertex)) in
    let size : length p ≡ length (h.prefix ++ ((h.arc ∷ h.middle) ++ (h.arc ∷ h.back))) = ap (λ (l : List ℕ). length l) is in
    let above : (eps.den + eps.num) * 0 < between (trail_of g u p) (length h.prefix) (length h.prefix + length (h.arc ∷ h.middle)) * eps.den = product_above eps.den eps.num (between (trail_of g u p) (length h.prefix) (length h.prefix + length (h.arc ∷ h.middle))) den (omega arith) in
    absurd (bounded (length h.prefix) (length h.prefix + length (h.arc ∷ h.middle)) 0 (record {
      rise = omega arith;
      inside = omega (arith, size, length-append h.prefix ((h.arc ∷ h.middle) ++ (h.arc ∷ h.back)), length-append (h.arc ∷ h.middle) (h.arc ∷ h.back), length-places g u p);
      dist = dist;
      above = above;
    })))
    (distinct_or_not p)

abbrev part : Graph → List ℕ → ℕ → ℕ
part g p b = cond (list_any (λ x. x == b) p) (length_at g b) 0

shared-cons : (g : Graph) (b : ℕ) (o p : List ℕ) → shared g (b ∷ o) p ≡ part g p b + shared g o p
shared-cons g b o p = sum_by-cons (λ x. part g p x) b o

-- one more arc of a walk, at each arc of the optimum
counts_more : (g : Graph) (o p : List ℕ) (a : ℕ) → Distinct o → list_any (λ b. b == a) p ≡ false → shared g o (a ∷ p) ≡ weight_on g o a + shared g o p
counts_more g [] p a distinct none = refl
counts_more g (b ∷ o) p a distinct none =
    ⊎_elim
    (λ (same : b ≡ a).
    let in_path : list_any (λ x. x == b) (a ∷ p) ≡ true = ap (λ (x : Bool). x || list_any (λ y. y == b) p) (eq-eqb a b (sym same)) in
    let not_after : list_any (λ x. x == b) p ≡ false = subst (λ (n : ℕ). list_any (λ x. x == n) p ≡ false) (sym same) none in
    let in_first : list_any (λ x. x == a) (b ∷ o) ≡ true = ap (λ (x : Bool). x || list_any (λ y. y == a) o) (eq-eqb b a same) in
    let not_later : list_any (λ x. x == a) o ≡ false = subst (λ (n : ℕ). list_any (λ x. x == n) o ≡ false) same distinct.0 in
    let one : part g (a ∷ p) b ≡ length_at g b = cond-true (list_any (λ x. x == b) (a ∷ p)) (length_at g b) 0 in_path in
    let two : part g p b ≡ 0 = cond-false (list_any (λ x. x == b) p) (length_at g b) 0 not_after in
    let three : weight_on g (b ∷ o) a ≡ length_at g a = cond-true (list_any (λ x. x == a) (b ∷ o)) (length_at g a) 0 in_first in
    let four : weight_on g o a ≡ 0 = cond-false (list_any (λ x. x == a) o) (length_at g a) 0 not_later in
    let long : length_at g b ≡ length_at g a = ap (λ (n : ℕ). length_at g n) same in
    omega (arith, shared-cons g b o (a ∷ p), shared-cons g b o p, counts_more g o p a distinct.1 none, one, two, three, four, long))
    (λ (other : b ≡ a → ⊥).
    let there : list_any (λ x. x == b) (a ∷ p) ≡ list_any (λ x. x == b) p = ap (λ (x : Bool). x || list_any (λ y. y == b) p) (ne_eqb a b (λ e. other (sym e))) in
    let first : list_any (λ x. x == a) (b ∷ o) ≡ list_any (λ x. x == a) o = ap (λ (x : Bool). x || list_any (λ y. y == a) o) (ne_eqb b a other) in
    let one : part g (a ∷ p) b ≡ part g p b = ap (λ (x : Bool). cond x (length_at g b) 0) there in
    let two : weight_on g (b ∷ o) a ≡ weight_on g o a = ap (λ (x : Bool). cond x (length_at g a) 0) first in
    omega (arith, shared-cons g b o (a ∷ p), shared-cons g b o p, counts_more g o p a distinct.1 none, one, two))
    (cases_eq b a)

nothing_shared : (g : Graph) (o : List ℕ) → shared g o [] ≡ carried g o []
nothing_shared g [] = refl
nothing_shared g (b ∷ o) = omega (arith, shared-cons g b o [], nothing_shared g o)

pub shared_is_carried : (g : Graph) (o p : List ℕ) → Distinct o → Distinct p → shared g o p ≡ carried g o p
shared_is_carried g o [] distinct_o distinct_p = nothing_shared g o
shared_is_carried g o (a ∷ p) distinct_o distinct_p =
    omega (arith, counts_more g o p a distinct_o distinct_p.0, sum_by-cons (λ x. weight_on g o x) a p, shared_is_carried g o p distinct_o distinct_p.1)

pub carried_of_admissible : (g : Graph) (q : Query) (o p : List ℕ) → IsGraph g → 1 ≤ q.epsilon.den → IsFirst g q.from o q.to → IsWalk g q.from p q.to → IsAdmissible g q o p → shared g o p ≡ carried g o p
carried_of_admissible g q o p sound den best walk h =
    shared_is_carried g o p (shortest_is_distinct g q.from q.to o sound best.shortest) (bounded_is_distinct g q.epsilon q.from q.to p sound den walk h.bounded)

pub carries_too_much : (g : Graph) (q : Query) (o p : List ℕ) (sum : ℕ) → IsGraph g → 1 ≤ q.epsilon.den → IsFirst g q.from o q.to → IsWalk g q.from p q.to → sum ≡ carried g o p → IsAbove q.gamma sum (walk_length g o) → IsAdmissible g q o p → ⊥
carries_too_much g q o p sum sound den best walk is above h =
    let same : shared g o p ≡ sum = carried_of_admissible g q o p sound den best walk h ∙ sym is in
    let limited : Allows q.gamma sum (walk_length g o) = subst (λ (n : ℕ). Allows q.gamma n (walk_length g o)) same h.limited in
    absurd (omega arith)
