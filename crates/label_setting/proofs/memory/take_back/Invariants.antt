use Rattle.std.proofs.Common.{drop}
use Rattle.label_setting.proofs.Touches.{IsLeft}
use Rattle.label_setting.proofs.memory.take_back.Given as goal

abbrev pub invariant-loop-v : goal.invariant-loop-v
invariant-loop-v l = IsLeft l.labels (drop l.v-index l.touched)
