use Rattle.std.proofs.Common.{◌≡◌}
use Rattle.hierarchy_build.specs.Own.{own_graph}
use Rattle.hierarchy_query.proofs.DistanceLists.{DistsSoFar}
use Rattle.hierarchy_query.proofs.tables.one_to_many.Given as goal

abbrev pub invariant-loop-target : goal.invariant-loop-target
invariant-loop-target l = record {
  graph : l.known.graph ≡ own_graph l.fn.hierarchy.value;
  source : l.known.source ≡ l.fn.from;
  dists : DistsSoFar (own_graph l.fn.hierarchy.value) l.fn.from l.targets l.target-index l.distances.items;
}
