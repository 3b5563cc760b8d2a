use Rattle.std.proofs.Common.{ℕ, ◌<◌, length}
use Rattle.road_model.specs.Tests.{IsTested}
use Rattle.local_optimality.proofs.tested.first_round.Given as goal

abbrev pub invariant-loop-first : goal.invariant-loop-first
invariant-loop-first l =
    (i j : ℕ) → i < l.first → l.via_at < j → j < length l.trail.vertices → IsTested l.alpha l.opt_len l.trail i j → ⊥
