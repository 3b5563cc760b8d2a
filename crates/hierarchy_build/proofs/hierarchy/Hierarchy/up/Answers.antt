use Rattle.hierarchy_build.proofs.RisingArcs.{AreAlong-up, all_rise}
use Rattle.hierarchy_build.proofs.hierarchy.Hierarchy.up.Goals as goal

pub returns-clause-rises : goal.returns-clause-rises
returns-clause-rises c = all_rise c.args.self.now.shape c.args.self.now.up (AreAlong-up c.args.self.now c.shape.ensures.own)
