use Rattle.road_laws.proofs.OneVerdict.{verdict_is_one_lem}
use Rattle.road_laws.proofs.answers.verdict_is_one.Goals as goal

pub returns : goal.returns
returns c = verdict_is_one_lem
