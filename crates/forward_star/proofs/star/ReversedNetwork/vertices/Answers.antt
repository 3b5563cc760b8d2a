use Rattle.std.proofs.Common.{subst}
use Rattle.road_model.specs.Graph.{Graph, IsGraph}
use Rattle.forward_star.proofs.Turned.{IsGraph-reversed}
use Rattle.forward_star.proofs.star.ReversedNetwork.vertices.Goals as goal

pub returns-clause-sound : goal.returns-clause-sound
returns-clause-sound c =
    subst (λ (g : Graph). IsGraph g) c.self.view_is (IsGraph-reversed c.self.inside.star.now c.vertices.ensures.limits.is_graph)
