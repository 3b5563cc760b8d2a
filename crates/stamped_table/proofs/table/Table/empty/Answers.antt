use Rattle.std.proofs.Common.{map, sym, subst}
use Rattle.stamped_table.specs.Tables.{told, IsEmpty}
use Rattle.stamped_table.proofs.Stamps.{older_told, older_more}
use Rattle.stamped_table.proofs.table.Table.empty.Goals as goal

pub returns-in_err-resize-clause-empty : goal.returns-in_err-resize-clause-empty
returns-in_err-resize-clause-empty g c =
    subst (λ l. IsEmpty (map (told c.next_stamp-self-inside.result) l)) (sym c.in_err-resize.ensures.items)
    (older_told c.next_stamp-self-inside.result c.next_stamp-self-inside.new.entries.items c.next_stamp-self-inside.ensures.older)

pub returns-in_ok-resize-clause-empty : goal.returns-in_ok-resize-clause-empty
returns-in_ok-resize-clause-empty g c =
    older_more c.next_stamp-self-inside.result c.args.places _ c.next_stamp-self-inside.new.entries.items c.resize.new.self.items c.self.inside.blank c.next_stamp-self-inside.ensures.some c.next_stamp-self-inside.ensures.older c.in_ok-resize.ensures.items

pub returns-else-len-places-clause-empty : goal.returns-else-len-places-clause-empty
returns-else-len-places-clause-empty g c = older_told c.next_stamp-self-inside.result c.next_stamp-self-inside.new.entries.items c.next_stamp-self-inside.ensures.older
