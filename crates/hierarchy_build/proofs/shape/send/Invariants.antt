use Rattle.std.proofs.Common.{◌≤◌, ◌⊎◌, length, get_or}
use Rattle.hierarchy_build.specs.Waits.{IsSent}
use Rattle.hierarchy_build.proofs.shape.send.Given as goal

abbrev pub invariant-loop-i : goal.invariant-loop-i
invariant-loop-i l = record {
  sent : IsSent l.run l.i (get_or l.run 0 0) l.fn.pending l.pending;
  few : (l.i ≤ length l.run) ⊎ (l.i ≤ 1);
}
