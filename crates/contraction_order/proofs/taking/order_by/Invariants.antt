use Rattle.std.proofs.Common.{◌≡◌, ◌-◌, ◌<◌, ◌≤◌, ℕ, length, get_or}
use Rattle.contraction_order.specs.Order.{AreTaken}
use Rattle.contraction_order.proofs.taking.order_by.Given as goal

abbrev pub invariant-loop-v : goal.invariant-loop-v
invariant-loop-v l = record {
  size : length l.taken.items ≡ l.vertices;
  taken : AreTaken l.taken.items l.order.items;
}

abbrev pub invariant-loop-v-2 : goal.invariant-loop-v-2
invariant-loop-v-2 l = record {
  size : length l.taken.items ≡ l.vertices;
  taken : AreTaken l.taken.items l.order.items;
  done : (w : ℕ) → 1 ≤ w → w < l.v → get_or l.taken.items (w - 1) 0 ≡ 1;
}
