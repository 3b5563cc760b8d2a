use Rattle.std.proofs.Common.{◌≤◌, ◌+◌, ◌-◌, length}
use Rattle.hierarchy_query.specs.Climbs.{Climbing}
use Rattle.hierarchy_query.proofs.climb.climb.Given as goal

abbrev pub invariant-up : goal.invariant-up
invariant-up l = record {
  climbing : Climbing (length l.fn.labels) l.first l.head l.links l.s l.x l.labels;
  few : l.passed ≤ l.x + 1;
}

abbrev pub decreases-up : goal.decreases-up
decreases-up l = length l.labels - l.x
