use Rattle.recheck.proofs.TrailSteps.{TakesTo}
use Rattle.recheck.proofs.places.places_of.Given as goal

abbrev pub invariant-loop-a : goal.invariant-loop-a
invariant-loop-a l = TakesTo l.star l.fn.from l.arcs l.a-index l.vertices.items l.sums.items l.at l.sum
