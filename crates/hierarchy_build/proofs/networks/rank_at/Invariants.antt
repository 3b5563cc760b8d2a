use Rattle.std.proofs.Common.{◌<◌, ◌≤◌, ◌-◌, length, slice_index}
use Rattle.hierarchy_build.proofs.networks.rank_at.Given as goal

abbrev pub invariant-halve : goal.invariant-halve
invariant-halve l = record {
  apart : l.low < l.high;
  inside : l.high < length l.first;
  late : slice_index l.first l.low ≤ l.place;
  early : l.place < slice_index l.first l.high;
}

abbrev pub decreases-halve : goal.decreases-halve
decreases-halve l = l.high - l.low
