use Rattle.recheck.specs.Across.{EachAfter, IsLowAt}
use Rattle.recheck.proofs.across.is_unstretched_at.Given as goal

abbrev pub invariant-loop-last : goal.invariant-loop-last
invariant-loop-last l = EachAfter l.via_at l.last (IsLowAt l.basis l.places l.first)
