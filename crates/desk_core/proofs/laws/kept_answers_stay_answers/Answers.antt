use Rattle.desk_core.proofs.KeptLemmas.{published_keeps, staged_keeps}
use Rattle.desk_core.proofs.laws.kept_answers_stay_answers.Goals as goal

pub returns : goal.returns
returns c = record { staged = staged_keeps; published = published_keeps }
