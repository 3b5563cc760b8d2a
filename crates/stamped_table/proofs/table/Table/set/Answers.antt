use Rattle.std.proofs.Common.{◌∙◌, ap, Some, set}
use Rattle.stamped_table.proofs.Stamps.{told_set}
use Rattle.stamped_table.proofs.table.Table.set.Goals as goal

pub returns-then-place-len : goal.returns-then-place-len
returns-then-place-len g c =
    told_set c.self.inside.stamp c.args.place c.self.inside.entries.items c.args.value ∙ ap (λ l. set l c.args.place (Some c.args.value)) c.self.view_is
