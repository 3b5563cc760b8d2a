use Rattle.desk_core.proofs.CacheLemmas.{put_first_is}
use Rattle.desk_core.proofs.desk.Desk.put.Goals as goal

pub returns-clause-put : goal.returns-clause-put
returns-clause-put c =
    put_first_is c.self.inside.plans c.put.new.self c.args.self.now c.args.key c.in_ok-plan.plan c.args.plan c.self.view_is c.len.ensures.valid c.requires c.in_ok-plan.ensures.ok c.in_ok-put.ensures.entries
