use Rattle.std.proofs.Common.{take}
use Rattle.road_model.specs.Graph.{reversed}
use Rattle.certify.specs.Blocks.{AreRows}
use Rattle.certify.proofs.blocks.from_rows.Given as goal

abbrev pub invariant-loop-v : goal.invariant-loop-v
invariant-loop-v l = AreRows (reversed l.pair.graph) l.pair.source l.pair.radius (take l.v-index l.v-items) l.rows.items
