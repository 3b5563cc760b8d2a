use Rattle.tree_tests.specs.declared.sides.Side.TheVariants.{Source, Target}
use Rattle.tree_tests.proofs.OnPaths.{on_from, on_to, on_side}
use Rattle.tree_tests.proofs.ancestors.parent_of.Goals as goal

pub returns-in-Some : goal.returns-in-Some
returns-in-Some c =
    on_side c.args.pair.now c.args.side Source c.in-Some.step.head c.args.v c.in-Source.is
    (on_from c.args.pair.now c.args.v c.from_step.result c.in-Some.step c.from_step.ensures c.in-Some.is)

pub returns-in-Some-to_step : goal.returns-in-Some-to_step
returns-in-Some-to_step c =
    on_side c.args.pair.now c.args.side Target c.in-Some-to_step.step.head c.args.v c.in-Target.is
    (on_to c.args.pair.now c.args.v c.to_step.result c.in-Some-to_step.step c.to_step.ensures c.in-Some-to_step.is)
