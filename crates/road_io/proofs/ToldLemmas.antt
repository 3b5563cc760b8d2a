-- What follows from what is told before and after a step, and how two steps make one.
use Rattle.std.proofs.Common.{◌≡◌, ℕ, List, Option, Some, None, refl, ◌∙◌}
use Rattle.road_io.specs.Told.{Told, IfTold}

-- a fact that follows from the one told is told too
pub IfTold_then : (a b : Option Told) (P Q : List ℕ → List ℕ → Type 0) → ((x y : List ℕ) → P x y → Q x y) → IfTold a b P → IfTold a b Q
IfTold_then None None P Q f h = h
IfTold_then None (Some b) P Q f h = h
IfTold_then (Some a) None P Q f h = h
IfTold_then (Some a) (Some b) P Q f h = (h.0, f a.bytes b.bytes h.1)

-- two steps, one after the other
pub IfTold_both : (a b c : Option Told) (P Q R : List ℕ → List ℕ → Type 0) → ((x y z : List ℕ) → P x y → Q y z → R x z) → IfTold a b P → IfTold b c Q → IfTold a c R
IfTold_both None None None P Q R f h k = tt
IfTold_both None None (Some c) P Q R f h k = absurd k
IfTold_both None (Some b) c P Q R f h k = absurd h
IfTold_both (Some a) None c P Q R f h k = absurd h
IfTold_both (Some a) (Some b) None P Q R f h k = absurd k
IfTold_both (Some a) (Some b) (Some c) P Q R f h k = (k.0 ∙ h.0, f a.bytes b.bytes c.bytes h.1 k.1)

-- where nothing happened, what holds of equal bytes is told
pub told_same : (a : Option Told) (P : List ℕ → List ℕ → Type 0) → ((x : List ℕ) → P x x) → IfTold a a P
told_same None P f = tt
told_same (Some a) P f = (refl, f a.bytes)

-- two facts told of one step are told together
pub IfTold_and : (a b : Option Told) (P Q : List ℕ → List ℕ → Type 0) → IfTold a b P → IfTold a b Q → IfTold a b (λ x y. P x y × Q x y)
IfTold_and None None P Q h k = tt
IfTold_and None (Some b) P Q h k = h
IfTold_and (Some a) None P Q h k = h
IfTold_and (Some a) (Some b) P Q h k = (h.0, (h.1, k.1))

-- an object that tells its bytes tells them afterwards, with the same names
pub told_still : (a : Told) (b : Option Told) (P : List ℕ → List ℕ → Type 0) → IfTold (Some a) b P → (now : Told) × (b ≡ Some now) × (now.files ≡ a.files) × P a.bytes now.bytes
told_still a None P h = absurd h
told_still a (Some b) P h = (b, refl, h.0, h.1)
