use Rattle.std.proofs.Common.{◌≡◌, take}
use Rattle.certify.specs.Classes.{AreClasses}
use Rattle.certify.proofs.vias.classes_of.Given as goal

abbrev pub invariant-loop-plateau : goal.invariant-loop-plateau
invariant-loop-plateau g l = record {
  same : g.O.Oracle.graph l.oracle ≡ g.O.Oracle.graph l.fn.oracle;
  are : AreClasses l.ground.star.now l.ground.query.now l.ground.best.now.arcs (take l.plateau-index l.plateaus) l.classes.items;
}
