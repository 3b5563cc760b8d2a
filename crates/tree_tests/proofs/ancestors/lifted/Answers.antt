use Rattle.tree_tests.proofs.OnPaths.{lifted_by, entry_at}
use Rattle.tree_tests.proofs.ancestors.lifted.Goals as goal

pub returns-then-depth_of-least : goal.returns-then-depth_of-least
returns-then-depth_of-least c = λ ts side all.
    lifted_by ts side c.args.v c.in-Some.entry.jump (entry_at ts side c.args.table.now c.args.v c.known.result c.in-Some.entry all c.known.ensures c.in-Some.is).jump

pub returns-else-depth_of-least : goal.returns-else-depth_of-least
returns-else-depth_of-least c = λ ts side all.
    lifted_by ts side c.args.v c.in-Some.entry.parent (entry_at ts side c.args.table.now c.args.v c.known.result c.in-Some.entry all c.known.ensures c.in-Some.is).parent
