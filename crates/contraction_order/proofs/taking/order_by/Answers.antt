use Rattle.std.proofs.Common.{ℕ, List, sym, subst, arith}
use Rattle.contraction_order.specs.Order.{IsOrder}
use Rattle.contraction_order.proofs.Takes.{IsOrder-taken}
use Rattle.contraction_order.proofs.taking.order_by.Goals as goal

pub returns : goal.returns
returns c =
    subst (λ (vs : List ℕ). IsOrder c.args.vertices vs) (sym c.from_vec.ensures)
    (IsOrder-taken c.args.vertices c.loop-v-2.taken.items c.loop-v-2.order.items c.loop-v-2.invariant.size c.loop-v-2.invariant.taken
    (λ v is_v. let low = is_v.first in let high = is_v.last in c.loop-v-2.invariant.done v (omega arith) (omega arith)))
