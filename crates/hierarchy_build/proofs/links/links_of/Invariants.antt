use Rattle.std.proofs.Common.{length}
use Rattle.hierarchy_build.specs.Links.{KeptSoFar}
use Rattle.hierarchy_build.proofs.links.links_of.Given as goal

abbrev pub invariant-loop-v : goal.invariant-loop-v
invariant-loop-v l = KeptSoFar (length l.shape.order) l.v l.shape.first l.shape.head l.lengths l.thinned l.links
