use Rattle.desk_core.proofs.ChainLemmas.{chain_ends}
use Rattle.desk_core.proofs.laws.a_chain_ends.Goals as goal

pub returns : goal.returns
returns c = chain_ends
