use Rattle.desk_core.proofs.CacheLemmas.{promote_kept, promote_moved, promote_same}
use Rattle.desk_core.proofs.desk.Desk.promote.Goals as goal

pub returns-clause-kept : goal.returns-clause-kept
returns-clause-kept c = promote_kept c.self.inside.plans c.args.self.now c.args.key.now c.promote.result c.self.view_is c.promote.ensures.value

pub returns-clause-moved : goal.returns-clause-moved
returns-clause-moved c =
    promote_moved c.self.inside.plans c.promote.new.self c.args.self.now c.args.key.now c.promote.result c.self.view_is c.len.ensures.valid c.promote.ensures.value c.promote.ensures.entries

pub returns-clause-same : goal.returns-clause-same
returns-clause-same c =
    promote_same c.self.inside.plans c.promote.new.self c.args.self.now c.args.key.now c.promote.result c.self.view_is c.promote.ensures.value c.promote.ensures.entries
