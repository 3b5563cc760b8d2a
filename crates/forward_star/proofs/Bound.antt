-- Within the limits, where a walk leads, one of less than 2^57 does: loops are taken out of it, and then
-- its arcs begin at different vertices.
use Rattle.std.proofs.Common.{◌≡◌, ◌+◌, ◌*◌, ◌^◌, ◌<◌, ◌≤◌, ℕ, suc, true, false, eqb, List, [], ◌∷◌, length, refl, sym, ap, ◌∙◌, subst, arith, ⊎_elim}
use Rattle.std.specs.List.{list_any, IsDistinct, AllByRecursion}
use Rattle.std.proofs.lemmas.Bool.{cases_Bool, or_cases, or_parts, eqb-true}
use Rattle.std.proofs.lemmas.Map.Keys.{IsDistinct-cons, IsDistinct-tail, IsDistinct-from_apart}
use Rattle.std.proofs.lemmas.Map.Steps.{length-le_from_distinct_below}
use Rattle.std.proofs.Math.Nat.{mul-le-mul_right}
use Rattle.road_model.specs.Graph.{Graph, arc_at, row_length, length_at, IsVertex, IsGraph, LengthsBelow}
use Rattle.road_model.specs.Walk.{IsWalk, walk_length}
use Rattle.road_model.specs.Dist.{DistsBelow}
use Rattle.road_model.specs.File.{IsWithinLimits}
use Rattle.road_model.proofs.Walks.{IsArc-at, length_at-below, row_tail}

-- where the arcs of a walk begin
abbrev tails : Graph → List ℕ → List ℕ
tails g [] = []
tails g (a ∷ p) = row_tail (arc_at g a) ∷ tails g p

record HasSimple (g : Graph) (u v : ℕ) : Type 0 where
  path : List ℕ
  walk : IsWalk g u path v
  apart : IsDistinct eqb (tails g path)

none_equal : (q : ℕ) (xs : List ℕ) → list_any (eqb q) xs ≡ false → AllByRecursion (λ y. eqb q y ≡ false) xs
none_equal q [] h = tt
none_equal q (x ∷ xs) h =
    let parts = or_parts (eqb q x) (list_any (eqb q) xs) h in
    (parts.0, none_equal q xs parts.1)

-- the part of such a walk that begins at one of them
part_from : (g : Graph) (p : List ℕ) (u v q : ℕ) → IsWalk g u p v → IsDistinct eqb (tails g p) → list_any (eqb q) (tails g p) ≡ true → HasSimple g q v
part_from g [] u v q walk apart any = absurd (let e : false ≡ true = any in cc)
part_from g (a ∷ p) u v q walk apart any =
    ⊎_elim
    (λ (here : eqb q (row_tail (arc_at g a)) ≡ true).
    let same : q ≡ row_tail (arc_at g a) = eqb-true q (row_tail (arc_at g a)) here in
    let tail : row_tail (arc_at g a) ≡ walk.0.tail = ap row_tail walk.1 in
    record { path = a ∷ p; walk = (walk.0, walk.1, sym (same ∙ tail), walk.3); apart = apart })
    (λ (later : list_any (eqb q) (tails g p) ≡ true). part_from g p walk.0.head v q walk.3 (IsDistinct-tail eqb (row_tail (arc_at g a)) (tails g p) apart) later)
    (or_cases (eqb q (row_tail (arc_at g a))) (list_any (eqb q) (tails g p)) any)

simple_walk : (g : Graph) (p : List ℕ) (u v : ℕ) → IsWalk g u p v → HasSimple g u v
simple_walk g [] u v walk = record { path = []; walk = walk; apart = IsDistinct-from_apart eqb [] (λ i j d lt inside. absurd (let z : j < 0 = inside in omega arith)) }
simple_walk g (a ∷ p) u v walk =
    let rest = simple_walk g p walk.0.head v walk.3 in
    let tail : row_tail (arc_at g a) ≡ u = ap row_tail walk.1 ∙ walk.2 in
    ⊎_elim
    (λ (again : list_any (eqb u) (tails g rest.path) ≡ true). part_from g rest.path walk.0.head v u rest.walk rest.apart again)
    (λ (new : list_any (eqb u) (tails g rest.path) ≡ false).
    let apart : IsDistinct eqb (u ∷ tails g rest.path) = IsDistinct-cons eqb u (tails g rest.path) (none_equal u (tails g rest.path) new) rest.apart in
    record {
      path = a ∷ rest.path;
      walk = (walk.0, walk.1, walk.2, rest.walk);
      apart = subst (λ (t : ℕ). IsDistinct eqb (t ∷ tails g rest.path)) (sym tail) apart;
    })
    (cases_Bool (list_any (eqb u) (tails g rest.path)))

tails_inside : (g : Graph) (p : List ℕ) (u v q : ℕ) → IsGraph g → IsWalk g u p v → list_any (eqb q) (tails g p) ≡ true → IsVertex g.vertices q
tails_inside g [] u v q sound walk any = absurd (let e : false ≡ true = any in cc)
tails_inside g (a ∷ p) u v q sound walk any =
    ⊎_elim
    (λ (here : eqb q (row_tail (arc_at g a)) ≡ true).
    let same : q ≡ row_tail (arc_at g a) = eqb-true q (row_tail (arc_at g a)) here in
    let tail : row_tail (arc_at g a) ≡ walk.0.tail = ap row_tail walk.1 in
    subst (λ (t : ℕ). IsVertex g.vertices t) (sym (same ∙ tail)) (IsArc-at g a walk.0 sound walk.1).tail)
    (λ (later : list_any (eqb q) (tails g p) ≡ true). tails_inside g p walk.0.head v q sound walk.3 later)
    (or_cases (eqb q (row_tail (arc_at g a))) (list_any (eqb q) (tails g p)) any)

length-tails : (g : Graph) (p : List ℕ) → length (tails g p) ≡ length p
length-tails g [] = refl
length-tails g (a ∷ p) = ap (λ (n : ℕ). suc n) (length-tails g p)

zero_is_new : (g : Graph) (p : List ℕ) (u v : ℕ) → IsGraph g → IsWalk g u p v → list_any (eqb 0) (tails g p) ≡ false
zero_is_new g p u v sound walk =
    ⊎_elim
    (λ (there : list_any (eqb 0) (tails g p) ≡ true). absurd (let low = (tails_inside g p u v 0 sound walk there).first in omega arith))
    (λ (new : list_any (eqb 0) (tails g p) ≡ false). new)
    (cases_Bool (list_any (eqb 0) (tails g p)))

-- so it has no more arcs than there are vertices
few_arcs : (g : Graph) (p : List ℕ) (u v : ℕ) → IsGraph g → IsWalk g u p v → IsDistinct eqb (tails g p) → length p ≤ g.vertices
few_arcs g p u v sound walk apart =
    let all : IsDistinct eqb (0 ∷ tails g p) = IsDistinct-cons eqb 0 (tails g p) (none_equal 0 (tails g p) (zero_is_new g p u v sound walk)) apart in
    let below : (q : ℕ) → list_any (eqb q) (0 ∷ tails g p) ≡ true → q < g.vertices + 1 =
    λ q any. ⊎_elim
    (λ (here : eqb q 0 ≡ true). let is : q ≡ 0 = eqb-true q 0 here in omega arith)
    (λ (later : list_any (eqb q) (tails g p) ≡ true). let high = (tails_inside g p u v q sound walk later).last in omega arith)
    (or_cases (eqb q 0) (list_any (eqb q) (tails g p)) any) in
    let count : length (0 ∷ tails g p) ≤ g.vertices + 1 = length-le_from_distinct_below (0 ∷ tails g p) (g.vertices + 1) all below in
    omega (arith, length-tails g p)

walk_length-le : (g : Graph) (p : List ℕ) (m u v : ℕ) → LengthsBelow g (m + 1) → IsWalk g u p v → walk_length g p ≤ length p * m
walk_length-le g [] m u v short walk = omega arith
walk_length-le g (a ∷ p) m u v short walk =
    let one : walk.0.length < m + 1 = length_at-below g (m + 1) a walk.0 short walk.1 in
    let is : length_at g a ≡ walk.0.length = ap row_length walk.1 in
    let rest = walk_length-le g p m walk.0.head v short walk.3 in
    omega arith

pub dists_below : (g : Graph) → IsWithinLimits g → DistsBelow g (2 ^ 57)
dists_below g h u v p walk none =
    let s = simple_walk g p u v walk in
    let few : length s.path ≤ g.vertices = few_arcs g s.path u v h.is_graph s.walk s.apart in
    let long : walk_length g s.path ≤ length s.path * 4294967295 = walk_length-le g s.path 4294967295 u v h.short s.walk in
    let far : 2 ^ 57 ≤ walk_length g s.path = none s.path s.walk in
    let few_enough : length s.path ≤ 33554432 = omega (arith, h.few_vertices) in
    let most : length s.path * 4294967295 ≤ 33554432 * 4294967295 = mul-le-mul_right 4294967295 few_enough in
    omega arith

-- and so below any greater number
pub DistsBelow-weaker : (g : Graph) (m n : ℕ) → m ≤ n → DistsBelow g m → DistsBelow g n
DistsBelow-weaker g m n le h u v p walk none = h u v p walk (λ q w. let low = none q w in omega arith)

pub LengthsBelow-weaker : (g : Graph) (m n : ℕ) → m ≤ n → LengthsBelow g m → LengthsBelow g n
LengthsBelow-weaker g m n le h k d inside = let low = h k d inside in omega arith
