use Rattle.std.proofs.Common.{◌+◌, ◌<◌, ℕ, get_or}
use Rattle.hierarchy_build.specs.Runs.{InSpan}
use Rattle.hierarchy_build.specs.Lengths.{Keeps, RunIsTight}
use Rattle.hierarchy_build.proofs.push.push_run.Given as goal

abbrev pub invariant-loop-i : goal.invariant-loop-i
invariant-loop-i l = record {
  keeps : Keeps l.ranks l.first l.head (get_or l.first (l.v + 1) 0) l.fn.up l.fn.down l.up l.down;
  tight : (k : ℕ) → k < l.i → InSpan l.first l.v k → RunIsTight l.first l.head l.up l.down l.v k;
}
