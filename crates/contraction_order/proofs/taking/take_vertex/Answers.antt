use Rattle.std.proofs.Common.{◌≡◌, ◌-◌, ℕ, List, length, set, get_or, sym, subst, arith}
use Rattle.road_model.specs.Graph.{IsVertex}
use Rattle.contraction_order.specs.Order.{AreTaken}
use Rattle.contraction_order.proofs.Takes.{AreTaken-more}
use Rattle.contraction_order.proofs.taking.take_vertex.Goals as goal

pub returns-clause-kept : goal.returns-clause-kept
returns-clause-kept c =
    let is_v : IsVertex (length c.args.taken.now) c.args.v = record { first = omega arith; last = omega arith } in
    let free : get_or c.args.taken.now (c.args.v - 1) 0 ≡ 0 = omega (arith, c.if-taken-at-ne0.false) in
    subst (λ (vs : List ℕ). AreTaken (set c.args.taken.now (c.args.v - 1) 1) vs) (sym c.in_ok-push.ensures.items)
    (AreTaken-more c.args.taken.now c.args.order.now.items c.args.v c.requires is_v free)
