-- An element of a list with one more before it.
use Rattle.std.proofs.Common.{◌≡◌, ◌⊎◌, zero, suc, List, ◌∷◌, Contains, refl, arith, inl, inr}

pub Contains-cons_cases : {X : Type 0} (x y : X) (xs : List X) → Contains (y ∷ xs) x → (y ≡ x) ⊎ Contains xs x
Contains-cons_cases x y xs (zero, inside, is) = inl is
Contains-cons_cases x y xs (suc k, inside, is) = inr (k, omega arith, is)

pub Contains-head : {X : Type 0} (x : X) (xs : List X) → Contains (x ∷ xs) x
Contains-head x xs = (0, omega arith, refl)

pub Contains-later : {X : Type 0} (x y : X) (xs : List X) → Contains xs x → Contains (y ∷ xs) x
Contains-later x y xs h = (suc h.0, omega (arith, h.1), h.2)
