use Rattle.desk_core.proofs.WorldLemmas.{alone_from_start}
use Rattle.desk_core.proofs.world_laws.others_change_no_reply.Goals as goal

pub returns : goal.returns
returns c = alone_from_start
