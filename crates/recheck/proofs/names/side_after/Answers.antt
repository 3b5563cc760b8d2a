use Rattle.recheck.specs.Runs.{IsLinked}
use Rattle.recheck.proofs.LinkLemmas.{label_falls}
use Rattle.recheck.proofs.RunEnds.{onward_once, run_lower}
use Rattle.recheck.proofs.names.side_after.Goals as goal

pub loop-next-smaller : goal.loop-next-smaller
loop-next-smaller c = label_falls c.args.basis.now c.loop-next.end c.in-Some.next c.in-Some.ensures.sound c.in-Some.ensures.step

pub loop-next-preserved : goal.loop-next-preserved
loop-next-preserved c =
    run_lower (IsLinked c.args.basis.now) (onward_once c.args.basis.now) c.args.v c.loop-next.end c.loop-next.least c.in-Some.next c.min-least.result c.loop-next.invariant c.in-Some.ensures.step c.min-least.ensures
