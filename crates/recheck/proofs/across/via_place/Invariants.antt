use Rattle.recheck.proofs.Splits.{NoneHas}
use Rattle.recheck.proofs.across.via_place.Given as goal

abbrev pub invariant-loop-place : goal.invariant-loop-place
invariant-loop-place l = NoneHas l.places l.r.via l.place
