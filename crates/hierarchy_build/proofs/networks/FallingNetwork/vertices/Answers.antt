use Rattle.std.proofs.Common.{subst}
use Rattle.road_model.specs.Graph.{Graph, IsGraph}
use Rattle.hierarchy_build.proofs.RisingArcs.{IsGraph-falling}
use Rattle.hierarchy_build.proofs.networks.FallingNetwork.vertices.Goals as goal

pub returns-clause-sound : goal.returns-clause-sound
returns-clause-sound c = subst (λ (g : Graph). IsGraph g) c.self.view_is (IsGraph-falling c.self.inside.hierarchy.now c.shape.ensures.own.graph)
