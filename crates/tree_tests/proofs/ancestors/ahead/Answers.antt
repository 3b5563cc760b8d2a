use Rattle.tree_tests.proofs.OnPaths.{lifted_itself, lifted_by, lifted_both, entry_at}
use Rattle.tree_tests.proofs.ancestors.ahead.Goals as goal

pub loop-init : goal.loop-init
loop-init c = λ ts side all. lifted_itself ts side c.args.x

pub loop-preserved : goal.loop-preserved
loop-preserved c = λ ts side all.
    lifted_both ts side c.args.x c.loop.at c.in-Some.entry.parent (c.loop.invariant ts side all)
    (lifted_by ts side c.loop.at c.in-Some.entry.parent (entry_at ts side c.args.table.now c.loop.at c.known.result c.in-Some.entry all c.known.ensures c.in-Some.is).parent)

pub returns : goal.returns
returns c = λ ts side all. c.loop.invariant ts side all
