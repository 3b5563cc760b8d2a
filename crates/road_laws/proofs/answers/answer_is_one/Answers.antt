use Rattle.road_laws.proofs.Listings.{answer_is_one_lem}
use Rattle.road_laws.proofs.answers.answer_is_one.Goals as goal

pub returns : goal.returns
returns c = answer_is_one_lem
