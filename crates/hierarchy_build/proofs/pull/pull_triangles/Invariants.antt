use Rattle.std.proofs.Common.{◌≤◌, get_or}
use Rattle.hierarchy_build.specs.Lengths.{Keeps, AreBeaten}
use Rattle.hierarchy_build.proofs.pull.pull_triangles.Given as goal

abbrev pub invariant-sink : goal.invariant-sink
invariant-sink l = record {
  inside : l.v ≤ l.ranks;
  keeps : Keeps l.ranks l.first l.head (get_or l.first l.v 0) l.fn.up l.fn.down l.up l.down;
  beaten : AreBeaten l.ranks l.first l.head l.v l.fn.up l.fn.down l.up l.down;
}

abbrev pub decreases-sink : goal.decreases-sink
decreases-sink l = l.v
