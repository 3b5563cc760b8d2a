use Rattle.tree_tests.specs.declared.sides.Side.TheVariants.{Source, Target}
use Rattle.road_model.proofs.Walks.{sound_of}
use Rattle.tree_tests.proofs.UpSteps.{up_from, up_to, up_at, inside_at}
use Rattle.tree_tests.proofs.sides.step_up.Goals as goal

pub returns-in-Source : goal.returns-in-Source
returns-in-Source c =
    up_at c.args.pair.now c.args.side Source c.args.v c.from_step.result c.in-Source.is
    (up_from c.args.pair.now c.args.v c.from_step.result (sound_of c.args.pair.now.graph c.star.result.now c.star.ensures c.within_limits.ensures)
    (inside_at c.args.pair.now c.args.side Source c.args.v c.in-Source.is c.requires) c.from_step.ensures)

pub returns-in-Target : goal.returns-in-Target
returns-in-Target c =
    up_at c.args.pair.now c.args.side Target c.args.v c.to_step.result c.in-Target.is
    (up_to c.args.pair.now c.args.v c.to_step.result (sound_of c.args.pair.now.graph c.star.result.now c.star.ensures c.within_limits.ensures)
    (inside_at c.args.pair.now c.args.side Target c.args.v c.in-Target.is c.requires) c.to_step.ensures)
