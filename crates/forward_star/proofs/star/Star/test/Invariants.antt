use Rattle.std.proofs.Common.{◌≡◌, drop}
use Rattle.road_model.specs.Changes.{change_fault}
use Rattle.forward_star.proofs.star.Star.test.Given as goal

abbrev pub invariant-loop-change : goal.invariant-loop-change
invariant-loop-change l = change_fault l.self (drop l.change-index l.changes) ≡ change_fault l.self l.changes
