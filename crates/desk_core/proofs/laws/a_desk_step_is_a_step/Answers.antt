use Rattle.desk_core.proofs.KeptLemmas.{desk_step, step_keeps}
use Rattle.desk_core.proofs.laws.a_desk_step_is_a_step.Goals as goal

pub returns : goal.returns
returns c = record { step = desk_step; kept = step_keeps }
