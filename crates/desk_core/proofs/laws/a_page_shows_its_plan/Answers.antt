use Rattle.desk_core.proofs.ShownLemmas.{step_shows}
use Rattle.desk_core.proofs.laws.a_page_shows_its_plan.Goals as goal

pub returns : goal.returns
returns c = step_shows
