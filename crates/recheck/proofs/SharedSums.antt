-- Shared lengths, by a sorted copy of a path.
use Rattle.std.proofs.Common.{◌≡◌, ℕ, ◌+◌, ◌<◌, ◌≤◌, ◌==◌, Bool, false, cond, List, [], ◌∷◌, length, get_or, take, refl, sym, ap, ◌∙◌, subst, arith, ⊎_elim, IsPermutation}
use Rattle.std.specs.List.{list_any}
use Rattle.std.proofs.lemmas.List.Sums.{sum_by_more, sum_by-cons}
use Rattle.std.proofs.lemmas.List.Folds.{list_any_none}
use Rattle.std.proofs.lemmas.List.Sorted.{list_any-IsPermutation}
use Rattle.std.proofs.lemmas.List.{get_or_default}
use Rattle.std.proofs.lemmas.Bool.{cases_lt, ne_eqb}
use Rattle.road_model.specs.Graph.{Graph, length_at}
use Rattle.road_model.specs.Tests.{shared}

-- what one arc of the optimum adds
abbrev pub counted : Graph → List ℕ → ℕ → ℕ
counted g p a = cond (list_any (λ b. b == a) p) (length_at g a) 0

pub on_missing : (o : List ℕ) (i a : ℕ) → ((k : ℕ) → k < i → get_or o k 0 < a) → ((k : ℕ) → i ≤ k → k < length o → a < get_or o k 0) → list_any (λ b. b == a) o ≡ false
on_missing o i a below above = list_any_none (λ b. b == a) o (λ k d lt. ne_eqb (get_or o k d) a (λ same.
    ⊎_elim
    (λ (less : k < i). omega (arith, below k less, get_or_default o k d 0 lt, same))
    (λ (ge : i ≤ k). omega (arith, above k ge lt, get_or_default o k d 0 lt, same))
    (cases_lt k i)))

pub shared_more : (g : Graph) (o p : List ℕ) (i a w : ℕ) → i < length o → a ≡ get_or o i 0 → w ≡ counted g p a → shared g (take (i + 1) o) p ≡ shared g (take i o) p + w
shared_more g o p i a w lt is adds =
    subst (λ (x : ℕ). shared g (take (i + 1) o) p ≡ shared g (take i o) p + x) (sym (adds ∙ ap (λ (x : ℕ). counted g p x) is)) (sum_by_more (counted g p) o i 0 lt)

pub shared_permuted : (g : Graph) (o p q : List ℕ) → IsPermutation p q → shared g o q ≡ shared g o p
shared_permuted g [] p q moved = refl
shared_permuted g (a ∷ o) p q moved =
    let any : list_any (λ b. b == a) p ≡ list_any (λ b. b == a) q = list_any-IsPermutation (λ b. b == a) p q moved in
    let one : counted g p a ≡ counted g q a = ap (λ (b : Bool). cond b (length_at g a) 0) any in
    omega (arith, sum_by-cons (λ x. counted g p x) a o, sum_by-cons (λ x. counted g q x) a o, shared_permuted g o p q moved)
