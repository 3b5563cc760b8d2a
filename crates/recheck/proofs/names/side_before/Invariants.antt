use Rattle.recheck.specs.Runs.{IsLinkedBack, IsRun, label_of}
use Rattle.recheck.proofs.names.side_before.Given as goal

abbrev pub invariant-loop-previous : goal.invariant-loop-previous
invariant-loop-previous l = IsRun (IsLinkedBack l.basis) l.v l.end l.least

abbrev pub decreases-loop-previous : goal.decreases-loop-previous
decreases-loop-previous l = label_of l.basis.from_rows l.end
