use Rattle.recheck.specs.Runs.{IsLinkedBack}
use Rattle.recheck.proofs.LinkLemmas.{label_rises}
use Rattle.recheck.proofs.RunEnds.{back_once, run_lower}
use Rattle.recheck.proofs.names.side_before.Goals as goal

pub loop-previous-smaller : goal.loop-previous-smaller
loop-previous-smaller c = label_rises c.args.basis.now c.in-Some.previous c.loop-previous.end c.in-Some.ensures.sound c.in-Some.ensures.step

pub loop-previous-preserved : goal.loop-previous-preserved
loop-previous-preserved c =
    run_lower (IsLinkedBack c.args.basis.now) (back_once c.args.basis.now) c.args.v c.loop-previous.end c.loop-previous.least c.in-Some.previous c.min-least.result c.loop-previous.invariant c.in-Some.ensures.step c.min-least.ensures
