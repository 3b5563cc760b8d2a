use Rattle.certify.proofs.StartRuns.{IsTaken}
use Rattle.certify.proofs.starts.run_ends.Given as goal

abbrev pub invariant-loop-place : goal.invariant-loop-place
invariant-loop-place l = IsTaken l.sorted l.source l.place l.kept.items
