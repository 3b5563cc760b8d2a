use Rattle.std.proofs.Common.{◌≡◌, ◌≤◌, ◌*◌, take}
use Rattle.road_model.specs.Walk.{walk_length}
use Rattle.recheck.proofs.detours.length_along.Given as goal

abbrev pub invariant-loop-a : goal.invariant-loop-a
invariant-loop-a l = record { is : l.sum ≡ walk_length l.star (take l.a-index l.arcs); low : l.sum ≤ 4294967296 * l.a-index }
