-- Numbers, tests and lists.
use Rattle.std.proofs.Common.{◌≡◌, ◌≢◌, ℕ, ◌<◌, ◌≤◌, ◌⊎◌, ◌==◌, Bool, true, false, cond, List, [], ◌∷◌, ◌++◌, reverse, sym, ap, ◌∙◌, arith, inl, inr, ⊎_elim}
use Rattle.std.proofs.lemmas.Bool.{cases_lt, cases_order, ne_eqb}
use Rattle.std.proofs.lemmas.List.{reverse-append}

pub same_or_other : (a b : ℕ) → (a ≡ b) ⊎ (a ≢ b)
same_or_other a b =
    ⊎_elim
    (λ (lt : a < b). let r : (a ≡ b) ⊎ (a ≢ b) = inr (λ e. absurd (omega arith)) in r)
    (λ (ge : b ≤ a).
    ⊎_elim
    (λ (gt : b < a). let r : (a ≡ b) ⊎ (a ≢ b) = inr (λ e. absurd (omega arith)) in r)
    (λ (le : a ≤ b). let same : a ≡ b = omega arith in let r : (a ≡ b) ⊎ (a ≢ b) = inl same in r)
    (cases_lt b a))
    (cases_lt a b)

pub eqb-flips : (a b : ℕ) → (a == b) ≡ (b == a)
eqb-flips a b =
    ⊎_elim
    (λ (same : a ≡ b). ap (λ (n : ℕ). n == b) same ∙ ap (λ (n : ℕ). b == n) (sym same))
    (λ (other : (a < b) ⊎ (b < a)).
    let one : a ≡ b → ⊥ = λ (e : a ≡ b). ⊎_elim (λ (lt : a < b). omega arith) (λ (gt : b < a). omega arith) other in
    let two : b ≡ a → ⊥ = λ (e : b ≡ a). one (sym e) in
    ne_eqb a b one ∙ sym (ne_eqb b a two))
    (cases_order a b)

pub cond-le : (b : Bool) (n : ℕ) → cond b n 0 ≤ n
cond-le true n = omega arith
cond-le false n = omega arith

pub reverse-cons : (a : ℕ) (p : List ℕ) → reverse (a ∷ p) ≡ reverse p ++ a ∷ []
reverse-cons a p = reverse-append (a ∷ []) p
