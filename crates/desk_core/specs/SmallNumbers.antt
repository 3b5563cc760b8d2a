-- Numbers that a cursor's text can hold.
--   ArePairSmall r     both numbers are below 10^19
--   AreQuerySmall q    all numbers of a query are
use Rattle.std.specs.Prelude.{ℕ, ◌<◌, ◌^◌}
use Rattle.road_model.specs.declared.request.CursorQuery.{CursorQuery}

pub record ArePairSmall (r : ℕ × ℕ) : Type 0 where
  pub num : r.0 < 10 ^ 19
  pub den : r.1 < 10 ^ 19

pub record AreQuerySmall (q : CursorQuery) : Type 0 where
  pub source : q.from < 10 ^ 19
  pub target : q.to < 10 ^ 19
  pub gamma : ArePairSmall q.gamma
  pub alpha : ArePairSmall q.alpha
  pub epsilon : ArePairSmall q.epsilon
