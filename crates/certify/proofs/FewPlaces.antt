-- A shortest walk meets no vertex twice, so it has few places.
use Rattle.std.proofs.Common.{◌≡◌, ℕ, ◌+◌, ◌<◌, ◌≤◌, ◌^◌, zero, suc, true, false, eqb, List, [], ◌∷◌, ◌++◌, length, get_or, Some, sym, ap, ◌∙◌, subst, arith, length-append, ⊎_elim}
use Rattle.std.specs.List.{list_any, IsDistinct}
use Rattle.std.proofs.lemmas.Bool.{or_cases, eqb-true, ne_eqb}
use Rattle.std.proofs.lemmas.List.{append-nil, get_or_default}
use Rattle.std.proofs.lemmas.Map.Keys.{IsDistinct-from_apart}
use Rattle.std.proofs.lemmas.Map.Steps.{length-le_from_distinct_below}
use Rattle.road_model.specs.Graph.{Graph, IsVertex, IsGraph, length_at, row_length, row_head, head_at}
use Rattle.road_model.specs.File.{IsWithinLimits}
use Rattle.road_model.specs.Walk.{IsWalk}
use Rattle.road_model.specs.Dist.{IsDist, IsShortest}
use Rattle.road_model.specs.Places.{places, sums, trail_of, vertex_at, between, IsDistAt}
use Rattle.road_model.specs.Alternatives.{IsVia}
use Rattle.road_model.proofs.Walks.{IsArc-at}
use Rattle.road_model.proofs.Dists.{IsDist-same, IsDist-itself}
use Rattle.road_model.proofs.Parts.{length-places, dist_in_prefix, sums_low}

-- each place is at a vertex
pub vertex_on : (g : Graph) (s v : ℕ) (p : List ℕ) (i : ℕ) → IsGraph g → IsVertex g.vertices s → IsWalk g s p v → i ≤ length p → IsVertex g.vertices (vertex_at (trail_of g s p) i)
vertex_on g s v [] zero sound inside walk le = inside
vertex_on g s v [] (suc i) sound inside walk le = absurd (omega arith)
vertex_on g s v (a ∷ p) zero sound inside walk le = inside
vertex_on g s v (a ∷ p) (suc i) sound inside walk le =
    let head : head_at g a ≡ walk.0.head = ap row_head walk.1 in
    subst (λ (x : ℕ). IsVertex g.vertices (get_or (places g x p) i 0)) (sym head)
    (vertex_on g walk.0.head v p i sound (IsArc-at g a walk.0 sound walk.1).head walk.3 (omega arith))

-- the lengths so far rise
sums_strict : (g : Graph) (k : ℕ) (p : List ℕ) (u v i j : ℕ) → IsGraph g → IsWalk g u p v → i < j → j ≤ length p → get_or (sums g k p) i 0 < get_or (sums g k p) j 0
sums_strict g k [] u v i j sound walk lt le = absurd (let none : j ≤ 0 = le in omega arith)
sums_strict g k (a ∷ p) u v i zero sound walk lt le = absurd (omega arith)
sums_strict g k (a ∷ p) u v zero (suc j) sound walk lt le =
    let one : 1 ≤ walk.0.length = (IsArc-at g a walk.0 sound walk.1).positive in
    let is : length_at g a ≡ walk.0.length = ap row_length walk.1 in
    omega (arith, sums_low g (k + length_at g a) p j (omega arith))
sums_strict g k (a ∷ p) u v (suc i) (suc j) sound walk lt le =
    sums_strict g (k + length_at g a) p walk.0.head v i j sound walk.3 (omega arith) (omega arith)

places_inside : (g : Graph) (p : List ℕ) (u v q : ℕ) → IsGraph g → IsVertex g.vertices u → IsWalk g u p v → list_any (eqb q) (places g u p) ≡ true → IsVertex g.vertices q
places_inside g [] u v q sound inside walk any =
    ⊎_elim
    (λ (here : eqb q u ≡ true). subst (λ (x : ℕ). IsVertex g.vertices x) (sym (eqb-true q u here)) inside)
    (λ (later : false ≡ true). absurd (let e : false ≡ true = later in cc))
    (or_cases (eqb q u) false any)
places_inside g (a ∷ p) u v q sound inside walk any =
    let head : head_at g a ≡ walk.0.head = ap row_head walk.1 in
    ⊎_elim
    (λ (here : eqb q u ≡ true). subst (λ (x : ℕ). IsVertex g.vertices x) (sym (eqb-true q u here)) inside)
    (λ (later : list_any (eqb q) (places g (head_at g a) p) ≡ true).
    places_inside g p walk.0.head v q sound (IsArc-at g a walk.0 sound walk.1).head walk.3
    (subst (λ (x : ℕ). list_any (eqb q) (places g x p) ≡ true) head later))
    (or_cases (eqb q u) (list_any (eqb q) (places g (head_at g a) p)) any)

places_apart : (g : Graph) (p : List ℕ) (u v i j : ℕ) → IsGraph g → IsShortest g u p v → i < j → j ≤ length p → vertex_at (trail_of g u p) i ≡ vertex_at (trail_of g u p) j → ⊥
places_apart g p u v i j sound h lt le same =
    let rise : get_or (sums g 0 p) i 0 < get_or (sums g 0 p) j 0 = sums_strict g 0 p u v i j sound h.walk lt le in
    let dist : IsDistAt g (trail_of g u p) i j (between (trail_of g u p) i j) = subst (λ (l : List ℕ). IsDistAt g (trail_of g u l) i j (between (trail_of g u l) i j)) (append-nil p) (dist_in_prefix g u v p [] i j h (omega arith) le) in
    let closed : IsDist g (vertex_at (trail_of g u p) j) (vertex_at (trail_of g u p) j) (Some (between (trail_of g u p) i j)) = subst (λ (x : ℕ). IsDist g x (vertex_at (trail_of g u p) j) (Some (between (trail_of g u p) i j))) same dist in
    let none : between (trail_of g u p) i j ≡ 0 = IsDist-same g (vertex_at (trail_of g u p) j) (vertex_at (trail_of g u p) j) (between (trail_of g u p) i j) 0 closed (IsDist-itself g (vertex_at (trail_of g u p) j)) in
    omega arith

shortest_few : (g : Graph) (p : List ℕ) (u v : ℕ) → IsGraph g → IsVertex g.vertices u → IsShortest g u p v → length p ≤ g.vertices
shortest_few g p u v sound inside h =
    let apart : IsDistinct eqb (places g u p) = IsDistinct-from_apart eqb (places g u p) (λ i j d lt within.
    ne_eqb (get_or (places g u p) i d) (get_or (places g u p) j d) (λ (same : get_or (places g u p) i d ≡ get_or (places g u p) j d).
    places_apart g p u v i j sound h lt (omega (arith, length-places g u p))
    (get_or_default (places g u p) i 0 d (omega arith) ∙ (same ∙ get_or_default (places g u p) j d 0 within)))) in
    let below : (q : ℕ) → list_any (eqb q) (places g u p) ≡ true → q < g.vertices + 1 =
    λ q any. let high = (places_inside g p u v q sound inside h.walk any).last in omega arith in
    let count : length (places g u p) ≤ g.vertices + 1 = length-le_from_distinct_below (places g u p) (g.vertices + 1) apart below in
    omega (arith, length-places g u p)

pub via_few : (g : Graph) (s t v : ℕ) (p : List ℕ) → IsWithinLimits g → IsVertex g.vertices s → IsVia g s t v p → length p + 1 < 2 ^ 32
via_few g s t v p limits source h =
    let prefix : length h.prefix ≤ g.vertices = shortest_few g h.prefix s v limits.is_graph source h.first.shortest in
    let back : length h.back ≤ g.vertices = shortest_few g h.back v t limits.is_graph h.vertex h.last.shortest in
    let most : g.vertices ≤ 33554432 = limits.few_vertices in
    let whole : length p ≡ length (h.prefix ++ h.back) = ap (λ (l : List ℕ). length l) h.joined in
    omega (arith, length-append h.prefix h.back)
