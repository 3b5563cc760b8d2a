use Rattle.road_model.proofs.CanonicalWalks.{IsFirst-unique}
use Rattle.road_laws.proofs.paths.first_is_one.Goals as goal

pub returns : goal.returns
returns c = IsFirst-unique
