-- Cross products compared.
use Rattle.std.proofs.Common.{◌≡◌, ℕ, ◌*◌, ◌<◌, ◌≤◌, ◌↔◌, IsTrue, ap, ◌∙◌, arith}
use Rattle.std.proofs.Math.Dec.{leb, ltb}
use Rattle.std.proofs.Math.Nat.{mul_comm}
use Rattle.std.proofs.lemmas.Bool.{leb-true, ltb-true, le-leb, lt-ltb}

-- a part by the denominator, where this was read as d
pub part_by : (a p d x : ℕ) → a ≡ p * d → d ≡ x → a ≡ p * x
part_by a p d x is same = is ∙ ap (λ (n : ℕ). p * n) same

-- the whole by a numerator, where this was read as n
pub whole_by : (b w n x : ℕ) → b ≡ w * n → n ≡ x → b ≡ x * w
whole_by b w n x is same = is ∙ ap (λ (m : ℕ). w * m) same ∙ mul_comm w x

pub at_most : (a b x y : ℕ) → a ≡ x → b ≡ y → IsTrue (leb a b) ↔ (x ≤ y)
at_most a b x y left right = (
  (λ test. let low : a ≤ b = leb-true a b test in omega arith),
  (λ low. le-leb a b (omega arith)),
)

pub below : (a b x y : ℕ) → a ≡ x → b ≡ y → IsTrue (ltb a b) ↔ (x < y)
below a b x y left right = (
  (λ test. let low : a < b = ltb-true a b test in omega arith),
  (λ low. lt-ltb a b (omega arith)),
)
