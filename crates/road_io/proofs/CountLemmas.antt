-- How a rise of a count carries over earlier and later steps.
use Rattle.std.proofs.Common.{ℕ, ◌≤◌, arith}
use Rattle.road_io.specs.Count.{HasRisen}

-- a rise after an earlier step
pub HasRisen-later : (a b c : ℕ) → a ≤ b → b ≤ c → HasRisen b c → HasRisen a c
HasRisen-later a b c h k r = λ below. grind arith

-- a rise before a later step
pub HasRisen_before : (a b c : ℕ) → HasRisen a b → b ≤ c → HasRisen a c
HasRisen_before a b c r k = λ below. grind arith
