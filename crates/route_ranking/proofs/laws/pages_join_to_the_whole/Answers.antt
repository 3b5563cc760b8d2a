use Rattle.std.proofs.Common.{arith}
use Rattle.route_ranking.proofs.PageLemmas.{joined-from}
use Rattle.route_ranking.proofs.laws.pages_join_to_the_whole.Goals as goal

pub returns : goal.returns
returns g c = λ size xs spans positive chain. joined-from size xs spans 0 (omega arith) chain
