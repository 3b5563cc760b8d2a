use Rattle.hierarchy_build.specs.Links.{IsAdded}
use Rattle.hierarchy_build.proofs.links.add_links.Given as goal

abbrev pub invariant-loop-k : goal.invariant-loop-k
invariant-loop-k l = IsAdded l.head l.lengths l.thinned l.from l.k l.fn.links l.links
