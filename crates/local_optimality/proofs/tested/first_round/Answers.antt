use Rattle.local_optimality.proofs.Halvings.{starts_untested}
use Rattle.local_optimality.proofs.tested.first_round.Goals as goal

pub loop-first-preserved : goal.loop-first-preserved
loop-first-preserved c =
    starts_untested c.args.alpha.now c.args.opt_len c.args.trail.now c.args.via_at c.loop-first.first c.is_tested.result c.requires.rising c.loop-first-test.true c.loop-first.invariant c.is_tested.ensures.1 c.if-is_tested.false
