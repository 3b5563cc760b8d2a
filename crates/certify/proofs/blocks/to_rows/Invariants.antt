use Rattle.std.proofs.Common.{take}
use Rattle.certify.specs.Blocks.{AreRows}
use Rattle.certify.proofs.blocks.to_rows.Given as goal

abbrev pub invariant-loop-v : goal.invariant-loop-v
invariant-loop-v l = AreRows l.pair.graph l.pair.target l.pair.radius (take l.v-index l.v-items) l.rows.items
