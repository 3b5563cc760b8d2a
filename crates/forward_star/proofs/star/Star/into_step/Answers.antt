use Rattle.std.proofs.Common.{◌∙◌, ap}
use Rattle.road_model.specs.Graph.{Graph, reversed, step_at}
use Rattle.forward_star.proofs.Stars.{step_into_star}
use Rattle.forward_star.proofs.star.Star.into_step.Goals as goal

pub returns : goal.returns
returns c =
    c.step.ensures
    ∙ step_into_star c.self.inside.topology.value c.deref.result.now c.self.inside.lengths c.deref-2.result.now c.args.v c.args.i c.self.invariant c.deref.ensures c.deref-2.ensures.value
    ∙ ap (λ (x : Graph). step_at (reversed x) c.args.v c.args.i) c.self.view_is
