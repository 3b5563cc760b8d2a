use Rattle.std.proofs.Common.{ℕ, ◌<◌}
use Rattle.road_model.specs.Tests.{IsTested}
use Rattle.local_optimality.proofs.tested.last_tested.Given as goal

abbrev pub invariant-loop-last : goal.invariant-loop-last
invariant-loop-last l = (j : ℕ) → l.via_at < j → j < l.last → IsTested l.alpha l.opt_len l.trail l.first j
