-- What a test answers that only tells whether a walk passes.
--   HasFailure F         some pair of places fails, and its distance
--   TellsPassing F passes   true: no pair fails; false: one does
use Rattle.std.specs.Prelude.{ℕ, Bool, MatchBool}
use Rattle.road_model.specs.Tests.{NoneFails}

pub record HasFailure (F : ℕ → ℕ → ℕ → Type 0) : Type 0 where
  pub first : ℕ
  pub last : ℕ
  pub distance : ℕ
  pub fails : F first last distance

abbrev pub TellsPassing : (ℕ → ℕ → ℕ → Type 0) → Bool → Type 0
TellsPassing F passes = MatchBool passes (NoneFails F) (HasFailure F)
