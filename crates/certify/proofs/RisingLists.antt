-- Lists of which a number rises.
use Rattle.std.proofs.Common.{◌≡◌, ℕ, ◌<◌, zero, suc, List, [], ◌∷◌, subst, map, arith, add-one, ⊎_elim}
use Rattle.std.specs.List.{Contains}
use Rattle.std.specs.List.Sorted.{IsStrictlyIncreasing}
use Rattle.recheck.proofs.RowLookups.{contains_first, contains_later, contains_cases, none_contained}

pub increasing_tail : {A : Type 0} (f : A → ℕ) (x : A) (xs : List A) → IsStrictlyIncreasing (map f (x ∷ xs)) → IsStrictlyIncreasing (map f xs)
increasing_tail f x xs rising k lt =
    let next = rising (suc k) (omega arith) in
    rw add-one (rw add-one at next)

-- the first one is below each later one
pub increasing_first : {A : Type 0} (f : A → ℕ) (x y : A) (xs : List A) → IsStrictlyIncreasing (map f (x ∷ xs)) → Contains xs y → f x < f y
increasing_first f x y [] rising there = none_contained y there
increasing_first f x y (z ∷ zs) rising there =
    let less : f x < f z = rising zero (omega arith) in
    ⊎_elim
    (λ (first : z ≡ y). subst (λ w. f x < f w) first less)
    (λ (later : Contains zs y).
    let above : f z < f y = increasing_first f z y zs (increasing_tail f x (z ∷ zs) rising) later in
    let both : f x < f y = omega arith in
    both)
    (contains_cases z y zs there)

pub contains_map : {A B : Type 0} (f : A → B) (xs : List A) (x : A) → Contains xs x → Contains (map f xs) (f x)
contains_map f [] x there = none_contained x there
contains_map f (y ∷ xs) x there =
    ⊎_elim
    (λ (first : y ≡ x). subst (λ z. Contains (map f (y ∷ xs)) (f z)) first (contains_first (f y) (map f xs)))
    (λ (later : Contains xs x). contains_later (f y) (f x) (map f xs) (contains_map f xs x later))
    (contains_cases y x xs there)
