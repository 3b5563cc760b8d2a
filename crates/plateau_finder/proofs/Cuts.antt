-- One list cut at two places.
use Rattle.std.proofs.Common.{◌≡◌, ℕ, ◌≤◌, List, [], ◌∷◌, ◌++◌, length, refl, ap, arith}

-- what lies between the two cuts
pub record Middle (f b h k : List ℕ) : Type 0 where
  pub middle : List ℕ
  pub later : h ≡ f ++ middle
  pub rest : b ≡ middle ++ k

pub between_cuts : (f b h k : List ℕ) → f ++ b ≡ h ++ k → length f ≤ length h → Middle f b h k
between_cuts [] b h k same le = record { middle = h; later = refl; rest = same }
between_cuts (a ∷ f) b [] k same le = absurd (omega arith)
between_cuts (a ∷ f) b (c ∷ h) k same le =
    let head : c ≡ a = cc in
    let tail : f ++ b ≡ h ++ k = cc in
    let m : Middle f b h k = between_cuts f b h k tail (omega arith) in
    let rest : h ≡ f ++ m.middle = m.later in
    record { middle = m.middle; later = cc; rest = m.rest }

pub record Last (l : List ℕ) : Type 0 where
  pub prefix : List ℕ
  pub item : ℕ
  pub is : l ≡ prefix ++ item ∷ []

pub last_item : (a : ℕ) (l : List ℕ) → Last (a ∷ l)
last_item a [] = record { prefix = []; item = a; is = refl }
last_item a (b ∷ l) =
    let rest : Last (b ∷ l) = last_item b l in
    record { prefix = a ∷ rest.prefix; item = rest.item; is = ap (λ (x : List ℕ). a ∷ x) rest.is }

pub nothing_left : (l : List ℕ) → length l ≡ 0 → l ≡ []
nothing_left [] is = refl
nothing_left (a ∷ l) is = absurd (omega arith)

-- two lists with the same items but for their last
pub same_last : (p q : List ℕ) (a b : ℕ) → p ++ a ∷ [] ≡ q ++ b ∷ [] → (p ≡ q) × (a ≡ b)
same_last [] [] a b same = (refl, let e : a ≡ b = cc in e)
same_last [] (y ∷ []) a b same = absurd (let e : [] ≡ b ∷ [] = cc in cc)
same_last [] (y ∷ (z ∷ q)) a b same = absurd (let e : [] ≡ z ∷ (q ++ b ∷ []) = cc in cc)
same_last (x ∷ []) [] a b same = absurd (let e : a ∷ [] ≡ [] = cc in cc)
same_last (x ∷ (z ∷ p)) [] a b same = absurd (let e : z ∷ (p ++ a ∷ []) ≡ [] = cc in cc)
same_last (x ∷ p) (y ∷ q) a b same =
    let head : x ≡ y = cc in
    let tail : p ++ a ∷ [] ≡ q ++ b ∷ [] = cc in
    let rest : (p ≡ q) × (a ≡ b) = same_last p q a b tail in
    let lists : p ≡ q = rest.0 in
    (cc, rest.1)

pub no_last : (p : List ℕ) (a : ℕ) → p ++ a ∷ [] ≡ [] → ⊥
no_last [] a same = cc
no_last (x ∷ p) a same = cc
