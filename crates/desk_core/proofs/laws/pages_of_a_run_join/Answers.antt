use Rattle.desk_core.proofs.RunLemmas.{pages_join}
use Rattle.desk_core.proofs.laws.pages_of_a_run_join.Goals as goal

pub returns : goal.returns
returns c = pages_join
