-- Canonical paths on a graph that is written out, by the least arc at each vertex.
--   LeastOut g t v p    at each vertex of the path p from v to t, no arc of a lower number leads out
--   LeastInto g s v p   at each vertex of the path to v, whose arcs p has backwards, none of a lower number leads in
use Rattle.std.proofs.Common.{◌≡◌, ◌≢◌, ℕ, ◌<◌, ◌≤◌, zero, suc, true, List, [], ◌∷◌, ◌++◌, reverse, Some, sym, ap, ◌∙◌, subst, arith, inl, inr, ⊎_elim}
use Rattle.std.proofs.lemmas.Bool.{cases_lt}
use Rattle.std.proofs.lemmas.List.{reverse-append}
use Rattle.road_model.specs.declared.rows.ArcRow.{ArcRow}
use Rattle.road_model.specs.Graph.{Graph, arc_at, head_at, row_head}
use Rattle.road_model.specs.Walk.{IsWalk}
use Rattle.road_model.specs.Dist.{IsShortest}
use Rattle.road_model.specs.Canonical.{LexLe, IsFirst, IsLast}
use Rattle.road_model.proofs.Walks.{Cut, cut, row_tail}
use Rattle.road_laws.proofs.Potentials.{none_out, none_into, arc_out, arc_into, Ends, last_arc}

abbrev pub tail_at : Graph → ℕ → ℕ
tail_at g a = row_tail (arc_at g a)

abbrev pub LeastOut : Graph → ℕ → ℕ → List ℕ → Type 0
LeastOut g t v [] = Unit {0}
LeastOut g t v (zero ∷ p) = ⊥
LeastOut g t v (suc k ∷ p) = (v ≢ t) × (none_out v k g.arcs ≡ true) × LeastOut g t (head_at g (suc k)) p

least_out : (g : Graph) (t v : ℕ) (p q : List ℕ) → LeastOut g t v p → IsWalk g v q t → LexLe p q
least_out g t v [] q h walk = tt
least_out g t v (zero ∷ p) q h walk = absurd h
least_out g t v (suc k ∷ p) [] h walk = absurd (h.0 walk)
least_out g t v (suc k ∷ p) (b ∷ q) h walk =
    let low : k < b = arc_out g v k b walk.0 h.1 walk.1 walk.2 in
    ⊎_elim
    (λ (lt : suc k < b). inl lt)
    (λ (le : b ≤ suc k).
    let same : suc k ≡ b = omega arith in
    let heads : walk.0.head ≡ head_at g (suc k) = sym (ap row_head walk.1) ∙ ap (λ (n : ℕ). head_at g n) (sym same) in
    inr (same, least_out g t (head_at g (suc k)) p q h.2 (subst (λ (x : ℕ). IsWalk g x q t) heads walk.3)))
    (cases_lt (suc k) b)

pub last_by : (g : Graph) (v t : ℕ) (p : List ℕ) → IsShortest g v p t → LeastOut g t v p → IsLast g v p t
last_by g v t p h least = record { shortest = h; least = (λ q other. least_out g t v p q least other.walk) }

abbrev pub LeastInto : Graph → ℕ → ℕ → List ℕ → Type 0
LeastInto g s v [] = Unit {0}
LeastInto g s v (zero ∷ p) = ⊥
LeastInto g s v (suc k ∷ p) = (s ≢ v) × (none_into v k g.arcs ≡ true) × LeastInto g s (tail_at g (suc k)) p

-- the walk up to the last arc
before_last : (g : Graph) (q : List ℕ) (s v : ℕ) (e : Ends g q v) → IsWalk g s q v → IsWalk g s e.before e.row.tail
before_last g q s v e walk =
    let whole : IsWalk g s (e.before ++ e.arc ∷ []) v = subst (λ (l : List ℕ). IsWalk g s l v) e.joined walk in
    let c : Cut g s e.before (e.arc ∷ []) v = cut g e.before (e.arc ∷ []) s v whole in
    let same : Some c.back.0 ≡ Some e.row = sym c.back.1 ∙ e.is in
    let row : c.back.0 ≡ e.row = cc in
    let tail : e.row.tail ≡ c.middle = sym (ap (λ (r : ArcRow). r.tail) row) ∙ c.back.2 in
    subst (λ (x : ℕ). IsWalk g s e.before x) (sym tail) c.prefix

least_into : (g : Graph) (s v : ℕ) (p q : List ℕ) → LeastInto g s v p → IsWalk g s q v → LexLe p (reverse q)
least_into g s v [] q h walk = tt
least_into g s v (zero ∷ p) q h walk = absurd h
least_into g s v (suc k ∷ p) [] h walk = absurd (h.0 walk)
least_into g s v (suc k ∷ p) (b ∷ q) h walk =
    let e : Ends g (b ∷ q) v = last_arc g b q s v walk in
    let low : k < e.arc = arc_into g v k e.arc e.row h.1 e.is e.head in
    let turned : reverse (b ∷ q) ≡ e.arc ∷ reverse e.before = ap (λ (l : List ℕ). reverse l) e.joined ∙ reverse-append e.before (e.arc ∷ []) in
    subst (λ (l : List ℕ). LexLe (suc k ∷ p) l) (sym turned)
    (⊎_elim
    (λ (lt : suc k < e.arc). inl lt)
    (λ (le : e.arc ≤ suc k).
    let same : suc k ≡ e.arc = omega arith in
    let tails : e.row.tail ≡ tail_at g (suc k) = sym (ap row_tail e.is) ∙ ap (λ (n : ℕ). tail_at g n) (sym same) in
    inr (same, least_into g s (tail_at g (suc k)) p e.before h.2 (subst (λ (x : ℕ). IsWalk g s e.before x) tails (before_last g (b ∷ q) s v e walk))))
    (cases_lt (suc k) e.arc))

pub first_by : (g : Graph) (s v : ℕ) (p : List ℕ) → IsShortest g s p v → LeastInto g s v (reverse p) → IsFirst g s p v
first_by g s v p h least = record { shortest = h; least = (λ q other. least_into g s v (reverse p) q least other.walk) }
