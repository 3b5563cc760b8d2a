use Rattle.std.proofs.Common.{arith}
use Rattle.label_setting.proofs.Touches.{bare_from_none_left}
use Rattle.label_setting.proofs.memory.take_back.Goals as goal

pub returns : goal.returns
returns c = bare_from_none_left c.loop-v.labels c.args.touched.now c.loop-v.v-index c.loop-v.invariant (omega arith)
