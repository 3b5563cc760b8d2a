-- The worked graphs: walks, distances and canonical paths on them.
use Rattle.std.proofs.Common.{◌≡◌, ℕ, ◌<◌, ◌≤◌, suc, List, [], ◌∷◌, reverse, Some, refl, sym, ap, ◌∙◌, subst, arith, inl, inr, ⊎_elim}
use Rattle.std.proofs.lemmas.Bool.{cases_lt}
use Rattle.std.proofs.lemmas.List.{reverse-append}
use Rattle.road_model.specs.declared.rows.ArcRow.{ArcRow}
use Rattle.road_model.specs.Graph.{arc_at}
use Rattle.road_model.specs.Walk.{IsWalk}
use Rattle.road_model.specs.Dist.{IsDist, IsShortest}
use Rattle.road_model.specs.Canonical.{LexLe, IsFirst, IsLast}
use Rattle.road_model.specs.Alternatives.{IsVia}
use Rattle.road_laws.specs.Worked.{arc, graph_a}
use Rattle.road_laws.proofs.Potentials.{dist_by, shortest_by, arc_out, arc_into, Ends, last_arc}

-- labels are the distances from a vertex, and 100 where none is; place 0 is of no vertex
abbrev from_1 : List ℕ
from_1 = 0 ∷ 0 ∷ 10 ∷ 11 ∷ 17 ∷ 22 ∷ 20 ∷ []

pub walk_345 : IsWalk graph_a 1 (3 ∷ 4 ∷ 5 ∷ []) 6
walk_345 = (arc 1 3 11, refl, refl, (arc 3 4 6, refl, refl, (arc 4 6 5, refl, refl, refl)))

pub walk_12 : IsWalk graph_a 1 (1 ∷ 2 ∷ []) 6
walk_12 = (arc 1 2 10, refl, refl, (arc 2 6 10, refl, refl, refl))

pub shortest_12 : IsShortest graph_a 1 (1 ∷ 2 ∷ []) 6
shortest_12 = shortest_by from_1 graph_a 1 6 (1 ∷ 2 ∷ []) refl walk_12 refl refl

pub dist_1_6 : IsDist graph_a 1 6 (Some 20)
dist_1_6 = dist_by from_1 graph_a 1 6 (1 ∷ 2 ∷ []) refl walk_12 refl refl

pub shortest_3 : IsShortest graph_a 1 (3 ∷ []) 3
shortest_3 = shortest_by from_1 graph_a 1 3 (3 ∷ []) refl (arc 1 3 11, refl, refl, refl) refl refl

pub shortest_16 : IsShortest graph_a 1 (1 ∷ 6 ∷ []) 3
shortest_16 = shortest_by from_1 graph_a 1 3 (1 ∷ 6 ∷ []) refl (arc 1 2 10, refl, refl, (arc 2 3 1, refl, refl, refl)) refl refl

-- the arcs 1 and 2 don't lead into vertex 3, so a walk there ends with arc 3 or a later one
lex_last : (q : List ℕ) → Ends graph_a q 3 → LexLe (3 ∷ []) (reverse q)
lex_last q e =
    let low : 2 < e.arc = arc_into graph_a 3 2 e.arc e.row refl e.is e.head in
    let turned : reverse q ≡ e.arc ∷ reverse e.before = ap (λ (l : List ℕ). reverse l) e.joined ∙ reverse-append e.before (e.arc ∷ []) in
    subst (λ (l : List ℕ). LexLe (3 ∷ []) l) (sym turned)
    (⊎_elim (λ (lt : 3 < e.arc). inl lt) (λ (le : e.arc ≤ 3). inr (omega arith, tt)) (cases_lt 3 e.arc))

first_3_least : (q : List ℕ) → IsShortest graph_a 1 q 3 → LexLe (3 ∷ []) (reverse q)
first_3_least [] h = let e : 1 ≡ 3 = h.walk in absurd (omega arith)
first_3_least (a ∷ q) h = lex_last (a ∷ q) (last_arc graph_a a q 1 3 h.walk)

pub first_3 : IsFirst graph_a 1 (3 ∷ []) 3
first_3 = record { shortest = shortest_3; least = first_3_least }

pub not_first_16 : IsFirst graph_a 1 (1 ∷ 6 ∷ []) 3 → ⊥
not_first_16 h =
    let before : LexLe (6 ∷ 1 ∷ []) (3 ∷ []) = h.least (3 ∷ []) shortest_3 in
    ⊎_elim (λ (lt : 6 < 3). absurd (omega arith)) (λ (eq : (6 ≡ 3) × LexLe (1 ∷ []) []). absurd eq.1) before

-- out of 3 only arc 4 leads, and out of 4 only arc 5
from_3 : List ℕ
from_3 = 0 ∷ 100 ∷ 100 ∷ 0 ∷ 6 ∷ 100 ∷ 11 ∷ []

pub shortest_45 : IsShortest graph_a 3 (4 ∷ 5 ∷ []) 6
unfolding from_3
shortest_45 = shortest_by from_3 graph_a 3 6 (4 ∷ 5 ∷ []) refl (arc 3 4 6, refl, refl, (arc 4 6 5, refl, refl, refl)) refl refl

lex_head : (n b : ℕ) (p q : List ℕ) → n < b → (b ≡ suc n → LexLe p q) → LexLe (suc n ∷ p) (b ∷ q)
lex_head n b p q low rest =
    ⊎_elim (λ (lt : suc n < b). inl lt) (λ (le : b ≤ suc n). inr (omega arith, rest (omega arith))) (cases_lt (suc n) b)

last_5 : (q : List ℕ) → IsWalk graph_a 4 q 6 → LexLe (5 ∷ []) q
last_5 [] h = let e : 4 ≡ 6 = h in absurd (omega arith)
last_5 (b ∷ q) h = lex_head 4 b [] q (arc_out graph_a 4 4 b h.0 refl h.1 h.2) (λ e. tt)

head_of_4 : (b : ℕ) (r : ArcRow) → b ≡ 4 → arc_at graph_a b ≡ Some r → r.head ≡ 4
head_of_4 b r e is =
    let there : arc_at graph_a 4 ≡ Some r = subst (λ (n : ℕ). arc_at graph_a n ≡ Some r) e is in
    let same : Some (arc 3 4 6) ≡ Some r = there in
    let row : arc 3 4 6 ≡ r = cc in
    sym (ap (λ (x : ArcRow). x.head) row)

last_45 : (q : List ℕ) → IsShortest graph_a 3 q 6 → LexLe (4 ∷ 5 ∷ []) q
last_45 [] h = let e : 3 ≡ 6 = h.walk in absurd (omega arith)
last_45 (b ∷ q) h =
    lex_head 3 b (5 ∷ []) q (arc_out graph_a 3 3 b h.walk.0 refl h.walk.1 h.walk.2)
    (λ e. last_5 q (subst (λ (x : ℕ). IsWalk graph_a x q 6) (head_of_4 b h.walk.0 e h.walk.1) h.walk.3))

pub last_3_6 : IsLast graph_a 3 (4 ∷ 5 ∷ []) 6
last_3_6 = record { shortest = shortest_45; least = last_45 }

pub via_3 : IsVia graph_a 1 6 3 (3 ∷ 4 ∷ 5 ∷ [])
via_3 = record { vertex = record { first = omega arith; last = omega arith }; prefix = 3 ∷ []; back = 4 ∷ 5 ∷ []; first = first_3; last = last_3_6; joined = refl }
