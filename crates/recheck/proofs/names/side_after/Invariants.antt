use Rattle.recheck.specs.Runs.{IsLinked, IsRun, label_of}
use Rattle.recheck.proofs.names.side_after.Given as goal

abbrev pub invariant-loop-next : goal.invariant-loop-next
invariant-loop-next l = IsRun (IsLinked l.basis) l.v l.end l.least

abbrev pub decreases-loop-next : goal.decreases-loop-next
decreases-loop-next l = label_of l.basis.to_rows l.end
