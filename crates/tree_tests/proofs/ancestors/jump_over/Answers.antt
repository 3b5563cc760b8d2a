use Rattle.tree_tests.proofs.OnPaths.{lifted_by, on_trans, entry_at}
use Rattle.tree_tests.proofs.ancestors.jump_over.Goals as goal

pub returns-then-first-second : goal.returns-then-first-second
returns-then-first-second c = λ ts side all.
    let one = entry_at ts side c.args.table.now c.args.parent c.known.result c.in-Some.entry all c.known.ensures c.in-Some.is in
    let two = entry_at ts side c.args.table.now c.in-Some.entry.jump c.known-2.result c.in-Some-known.middle all c.known-2.ensures c.in-Some-known.is in
    lifted_by ts side c.args.parent c.in-Some-known.middle.jump (on_trans ts side c.in-Some-known.middle.jump c.in-Some.entry.jump c.args.parent two.jump one.jump)
