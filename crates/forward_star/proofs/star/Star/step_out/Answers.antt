use Rattle.std.proofs.Common.{◌∙◌, ap}
use Rattle.road_model.specs.Graph.{Graph, step_at}
use Rattle.forward_star.proofs.Stars.{step_out_of_star}
use Rattle.forward_star.proofs.star.Star.step_out.Goals as goal

pub returns : goal.returns
returns c =
    c.step.ensures
    ∙ step_out_of_star c.self.inside.topology.value c.deref.result.now c.self.inside.lengths c.deref-2.result.now c.args.v c.args.i c.self.invariant c.deref.ensures c.deref-2.ensures.value
    ∙ ap (λ (x : Graph). step_at x c.args.v c.args.i) c.self.view_is
