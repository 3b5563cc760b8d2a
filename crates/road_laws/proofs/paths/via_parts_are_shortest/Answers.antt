use Rattle.road_laws.proofs.Parts.{via_parts_lem}
use Rattle.road_laws.proofs.paths.via_parts_are_shortest.Goals as goal

pub returns : goal.returns
returns c = via_parts_lem
