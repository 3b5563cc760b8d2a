use Rattle.road_model.proofs.Dists as dists
use Rattle.road_laws.proofs.paths.triangle.Goals as goal

pub returns : goal.returns
returns c = dists.triangle
