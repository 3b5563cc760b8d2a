use Rattle.std.proofs.Common.{◌≡◌, ◌≤◌, ◌*◌, take}
use Rattle.road_model.specs.Tests.{shared}
use Rattle.recheck.proofs.measures.shared_with.Given as goal

abbrev pub invariant-loop-a : goal.invariant-loop-a
invariant-loop-a l = record { is : l.sum ≡ shared l.star (take l.a-index l.optimum) l.ascending; low : l.sum ≤ 4294967296 * l.a-index }
