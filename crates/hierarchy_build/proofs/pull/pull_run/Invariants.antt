use Rattle.std.proofs.Common.{◌<◌, ℕ}
use Rattle.hierarchy_build.specs.Runs.{InSpan}
use Rattle.hierarchy_build.specs.Lengths.{Pulls, RunIsBeaten}
use Rattle.hierarchy_build.proofs.pull.pull_run.Given as goal

abbrev pub invariant-loop-i : goal.invariant-loop-i
invariant-loop-i l = record {
  pulls : Pulls l.ranks l.first l.head l.v l.fn.up l.fn.down l.up l.down;
  beaten : (k : ℕ) → k < l.i → InSpan l.first l.v k → RunIsBeaten l.first l.head l.v k l.fn.up l.fn.down l.up l.down;
}
