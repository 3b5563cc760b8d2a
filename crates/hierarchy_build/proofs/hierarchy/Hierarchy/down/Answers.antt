use Rattle.hierarchy_build.proofs.RisingArcs.{AreAlong-down, all_rise}
use Rattle.hierarchy_build.proofs.hierarchy.Hierarchy.down.Goals as goal

pub returns-clause-rises : goal.returns-clause-rises
returns-clause-rises c = all_rise c.args.self.now.shape c.args.self.now.down (AreAlong-down c.args.self.now c.shape.ensures.own)
