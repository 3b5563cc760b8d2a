use Rattle.road_laws.proofs.Vias.{via_of_target_lem}
use Rattle.road_laws.proofs.paths.via_of_target.Goals as goal

pub returns : goal.returns
returns c = via_of_target_lem
