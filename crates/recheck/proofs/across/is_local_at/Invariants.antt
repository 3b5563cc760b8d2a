use Rattle.recheck.specs.Across.{EachAfter, IsLocalAt}
use Rattle.recheck.proofs.across.is_local_at.Given as goal

abbrev pub invariant-loop-last : goal.invariant-loop-last
invariant-loop-last l = EachAfter l.via_at l.last (IsLocalAt l.basis l.places l.first)
