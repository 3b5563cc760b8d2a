use Rattle.road_laws.proofs.Parts.{locally_optimal_lem}
use Rattle.road_laws.proofs.paths.locally_optimal_is_shortest.Goals as goal

pub returns : goal.returns
returns c = locally_optimal_lem
