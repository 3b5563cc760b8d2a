use Rattle.recheck.specs.Across.{EachBefore, IsCoveredAt}
use Rattle.recheck.proofs.across.is_covered.Given as goal

abbrev pub invariant-loop-first : goal.invariant-loop-first
invariant-loop-first l = EachBefore l.first (IsCoveredAt l.basis l.places)
