-- A ratio, and its comparisons as cross products of whole numbers.
--   Fraction         n / d
--   IsRatio cap f    d is 1 to 1000000, and n / d is at most cap
--   Allows f p w     p is at most f times w
--   IsAbove f p w    p is above f times w
--   IsBelow f p w    p is below f times w
--   Stretches f p w  p is at most 1 + f times w
--   Exceeds f p w    p is above 1 + f times w
use Rattle.std.specs.Prelude.{◌<◌, ◌≤◌, ◌+◌, ◌*◌, ℕ}

pub record Fraction : Type 0 where
  pub num : ℕ
  pub den : ℕ

pub record IsRatio (cap : ℕ) (f : Fraction) : Type 0 where
  pub positive : 1 ≤ f.den
  pub fine : f.den ≤ 1000000
  pub capped : f.num ≤ cap * f.den

abbrev pub Allows : Fraction → ℕ → ℕ → Type 0
Allows f part whole = part * f.den ≤ f.num * whole

abbrev pub IsAbove : Fraction → ℕ → ℕ → Type 0
IsAbove f part whole = f.num * whole < part * f.den

abbrev pub IsBelow : Fraction → ℕ → ℕ → Type 0
IsBelow f part whole = part * f.den < f.num * whole

abbrev pub Stretches : Fraction → ℕ → ℕ → Type 0
Stretches f part whole = part * f.den ≤ (f.den + f.num) * whole

abbrev pub Exceeds : Fraction → ℕ → ℕ → Type 0
Exceeds f part whole = (f.den + f.num) * whole < part * f.den
