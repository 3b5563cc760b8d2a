use Rattle.road_laws.proofs.Vias.{HasNumbers-unique}
use Rattle.road_laws.proofs.answers.numbers_are_one.Goals as goal

pub returns : goal.returns
returns c = HasNumbers-unique
