use Rattle.canonical_trees.proofs.Bounds.{bounded, ball_from}
use Rattle.canonical_trees.proofs.KeptSteps.{none_kept}
use Rattle.road_model.specs.Graph.{reversed}
use Rattle.canonical_trees.proofs.tree_pair.tree_from_in.Goals as goal

pub ball_in-requires-clause-bounded : goal.ball_in-requires-clause-bounded
ball_in-requires-clause-bounded c = bounded c.args.star.now c.args.radius c.searched.result c.within_limits.ensures c.searched.ensures

pub invariant_of-result : goal.invariant_of-result
invariant_of-result c = record {
  tree = record {
    limits = c.within_limits.ensures;
    root = c.requires.vertex;
    ball = ball_from c.args.star.now c.args.s c.args.radius c.searched.result c.in_ok-ball.ball c.within_limits.ensures c.searched.ensures c.in_ok-ball.ensures.ball;
  };
  steps = none_kept (reversed c.args.star.now) c.args.s c.in_ok-ball.ball.labels c.in_ok-steps.steps c.in_ok-steps.ensures;
}
