use Rattle.std.proofs.Common.{length}
use Rattle.recheck.specs.Across.{EachBefore, EachAfter, IsLocalAt}
use Rattle.recheck.proofs.across.is_local.Given as goal

abbrev pub invariant-loop-first : goal.invariant-loop-first
invariant-loop-first l = EachBefore l.first (λ i. EachAfter l.via_at (length l.places.vertices) (IsLocalAt l.basis l.places i))
