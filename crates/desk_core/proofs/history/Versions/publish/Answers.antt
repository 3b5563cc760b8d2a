use Rattle.std.proofs.Common.{◌∙◌}
use Rattle.desk_core.proofs.HistoryLemmas.{versions_pushed}
use Rattle.desk_core.proofs.history.Versions.publish.Goals as goal

pub invariant_of-self-2 : goal.invariant_of-self-2
invariant_of-self-2 g c =
    versions_pushed g.V.Version.base g.V.Version.history c.self.inside.older.items c.push.new.self.items _ c.self.inside.newest c.replace-before.new.dest c.prepared.result.now c.in_ok-next.next c.replace-before.result c.args.changes.now c.self.invariant c.in-Ok.ensures.items c.reserve.ensures.items c.replace-before.ensures.value
    (c.replace-before.ensures.after ∙ c.of-next.ensures ∙ c.in_ok-new.ensures.ok)
    c.in_ok-next.ensures.base c.in_ok-next.ensures.history c.prepared.ensures
