use Rattle.certify.proofs.ViaLines.{AreLines}
use Rattle.certify.proofs.vias.rows_of.Given as goal

abbrev pub invariant-loop-v : goal.invariant-loop-v
invariant-loop-v l = AreLines l.ground.star.now l.ground.query.now l.ground.best.now.arcs l.ground.pair.now l.bound l.v-items l.v-index l.rows.items
