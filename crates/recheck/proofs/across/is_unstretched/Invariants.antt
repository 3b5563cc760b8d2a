use Rattle.std.proofs.Common.{length}
use Rattle.recheck.specs.Across.{EachBefore, EachAfter, IsLowAt}
use Rattle.recheck.proofs.across.is_unstretched.Given as goal

abbrev pub invariant-loop-first : goal.invariant-loop-first
invariant-loop-first l = EachBefore l.first (λ i. EachAfter l.via_at (length l.places.vertices) (IsLowAt l.basis l.places i))
