use Rattle.std.proofs.Common.{◌∙◌}
use Rattle.certify.proofs.ClassLemmas.{classes_more}
use Rattle.certify.proofs.TestedPaths.{same_after}
use Rattle.certify.proofs.vias.classes_of.Goals as goal

pub reason_of-requires-clause-same : goal.reason_of-requires-clause-same
reason_of-requires-clause-same g c =
    same_after c.args.ground.now.star.now (g.O.Oracle.graph c.args.oracle.now) (g.O.Oracle.graph c.loop-plateau.oracle) c.loop-plateau.invariant.same c.requires.same

pub loop-plateau-preserved : goal.loop-plateau-preserved
loop-plateau-preserved g c =
    let ground = c.args.ground.now in
    record {
      same = c.reason_of.ensures.same ∙ c.loop-plateau.invariant.same;
      are = classes_more ground.star.now ground.query.now ground.best.now.arcs c.args.plateaus.now c.loop-plateau.plateau-index c.plateau-item.result c.loop-plateau.classes.items c.push.new.self.items c.in_ok-reason_of.field-0
          c.loop-plateau-test.true c.plateau-item.is c.in_ok-push.ensures.items c.in_ok-reason_of.ensures.reason c.loop-plateau.invariant.are;
    }
