use Rattle.road_model.proofs.CanonicalWalks.{IsLast-unique}
use Rattle.road_laws.proofs.paths.last_is_one.Goals as goal

pub returns : goal.returns
returns c = IsLast-unique
