use Rattle.desk_core.proofs.RunLemmas.{version_keeps}
use Rattle.desk_core.proofs.laws.a_version_keeps_its_graph.Goals as goal

pub returns : goal.returns
returns c = version_keeps
