use Rattle.canonical_trees.proofs.Bounds.{short_reversed, bounded_reversed, ball_to}
use Rattle.canonical_trees.proofs.KeptSteps.{none_kept}
use Rattle.canonical_trees.proofs.tree_pair.tree_to_in.Goals as goal

pub ball_in-requires-clause-short : goal.ball_in-requires-clause-short
ball_in-requires-clause-short c = short_reversed c.args.star.now c.reversed.result c.within_limits.ensures c.reversed.ensures

pub ball_in-requires-clause-bounded : goal.ball_in-requires-clause-bounded
ball_in-requires-clause-bounded c = bounded_reversed c.args.star.now c.reversed.result c.args.radius c.searched.result c.within_limits.ensures c.reversed.ensures c.searched.ensures

pub invariant_of-result : goal.invariant_of-result
invariant_of-result c = record {
  tree = record {
    limits = c.within_limits.ensures;
    root = c.requires.vertex;
    ball = ball_to c.args.star.now c.reversed.result c.args.t c.args.radius c.searched.result c.in_ok-ball.ball c.within_limits.ensures c.reversed.ensures c.searched.ensures c.in_ok-ball.ensures.ball;
  };
  steps = none_kept c.args.star.now c.args.t c.in_ok-ball.ball.labels c.in_ok-steps.steps c.in_ok-steps.ensures;
}
