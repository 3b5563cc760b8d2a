-- Dictionary order is an order, and so the canonical walk is one.
use Rattle.std.proofs.Common.{◌≡◌, ℕ, List, [], ◌∷◌, reverse, refl, sym, ap, ◌∙◌, arith, inl, inr, ◌++◌}
use Rattle.std.proofs.lemmas.List.{reverse-reverse}
use Rattle.road_model.specs.Graph.{Graph}
use Rattle.road_model.specs.Canonical.{LexLe, IsFirst, IsLast}
use Rattle.road_model.specs.Alternatives.{IsVia}

pub LexLe-refl : (p : List ℕ) → LexLe p p
LexLe-refl [] = tt
LexLe-refl (a ∷ p) = inr (refl, LexLe-refl p)

pub LexLe-antisym : (p q : List ℕ) → LexLe p q → LexLe q p → p ≡ q
LexLe-antisym [] [] h k = refl
LexLe-antisym [] (b ∷ q) h k = absurd k
LexLe-antisym (a ∷ p) [] h k = absurd h
LexLe-antisym (a ∷ p) (b ∷ q) (inl h) (inl k) = absurd (omega arith)
LexLe-antisym (a ∷ p) (b ∷ q) (inl h) (inr k) = absurd (omega (arith, k.0))
LexLe-antisym (a ∷ p) (b ∷ q) (inr h) (inl k) = absurd (omega (arith, h.0))
LexLe-antisym (a ∷ p) (b ∷ q) (inr h) (inr k) =
    let rest : p ≡ q = LexLe-antisym p q h.1 k.1 in
    let same : a ≡ b = h.0 in
    cc

pub LexLe-trans : (p q r : List ℕ) → LexLe p q → LexLe q r → LexLe p r
LexLe-trans [] q r h k = tt
LexLe-trans (a ∷ p) [] r h k = absurd h
LexLe-trans (a ∷ p) (b ∷ q) [] h k = absurd k
LexLe-trans (a ∷ p) (b ∷ q) (c ∷ r) (inl h) (inl k) = inl (omega arith)
LexLe-trans (a ∷ p) (b ∷ q) (c ∷ r) (inl h) (inr k) = inl (omega (arith, k.0))
LexLe-trans (a ∷ p) (b ∷ q) (c ∷ r) (inr h) (inl k) = inl (omega (arith, h.0))
LexLe-trans (a ∷ p) (b ∷ q) (c ∷ r) (inr h) (inr k) = inr (h.0 ∙ k.0, LexLe-trans p q r h.1 k.1)

pub IsLast-unique : (g : Graph) (v t : ℕ) (p q : List ℕ) → IsLast g v p t → IsLast g v q t → p ≡ q
IsLast-unique g v t p q h k = LexLe-antisym p q (h.least q k.shortest) (k.least p h.shortest)

pub IsFirst-unique : (g : Graph) (s v : ℕ) (p q : List ℕ) → IsFirst g s p v → IsFirst g s q v → p ≡ q
IsFirst-unique g s v p q h k =
    let turned : reverse p ≡ reverse q = LexLe-antisym (reverse p) (reverse q) (h.least q k.shortest) (k.least p h.shortest) in
    sym (reverse-reverse p) ∙ ap (λ (l : List ℕ). reverse l) turned ∙ reverse-reverse q

pub IsVia-unique : (g : Graph) (s t v : ℕ) (p q : List ℕ) → IsVia g s t v p → IsVia g s t v q → p ≡ q
IsVia-unique g s t v p q h k =
    let prefix : h.prefix ≡ k.prefix = IsFirst-unique g s v h.prefix k.prefix h.first k.first in
    let back : h.back ≡ k.back = IsLast-unique g v t h.back k.back h.last k.last in
    h.joined ∙ (ap (λ (x : List ℕ). x ++ h.back) prefix ∙ (ap (λ (x : List ℕ). k.prefix ++ x) back ∙ sym k.joined))
