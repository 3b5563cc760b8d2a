use Rattle.desk_core.proofs.CacheLemmas.{keeps_is}
use Rattle.desk_core.proofs.desk.Desk.keeps.Goals as goal

pub returns-in-Some : goal.returns-in-Some
returns-in-Some c = keeps_is c.self.inside.plans c.args.self.now c.args.key c.in-Some.key c.contains.result c.self.view_is c.in-Some.is c.contains.ensures
