use Rattle.std.proofs.Common.{◌==◌, List, ℕ, sym, ap, ◌∙◌, arith}
use Rattle.std.specs.List.{list_any}
use Rattle.path_tests.proofs.SharedArcs.{item_of, shared_fits, shared_more_yes, shared_more_no}
use Rattle.path_tests.proofs.sharing.shared.Goals as goal
use Rattle.path_tests.proofs.sharing.shared.Goals.{then-has_arc, else-has_arc}

pub overflow_add-sum : goal.overflow_add-sum
overflow_add-sum g c =
    let is = item_of _ _ _ _ c.as_slice-a-items.ensures c.loop-a-test.true c.a-item.is in
    omega (arith, shared_fits (g.N.Network.graph c.args.net.now) c.args.optimum.now c.args.arcs.now c.loop-a.a-index c.a-item.result is.0 is.1)

pub loop-a-preserved : goal.loop-a-preserved
loop-a-preserved g c =
    let is = item_of _ _ _ _ c.as_slice-a-items.ensures c.loop-a-test.true c.a-item.is in
    let answer = c.has_arc.ensures ∙ ap (λ (l : List ℕ). list_any (λ b. b == c.a-item.result) l) c.as_slice.ensures in
    elim c.if-has_arc.branch [
      | then-has_arc w ↦ w.sum-is ∙ shared_more_yes (g.N.Network.graph c.args.net.now) _ c.args.arcs.now _ _ _ _ is (sym w.if-has_arc.true ∙ answer) c.loop-a.invariant w.arc_length-sum.ensures
      | else-has_arc w ↦ w.sum-is ∙ shared_more_no (g.N.Network.graph c.args.net.now) _ c.args.arcs.now _ _ _ is (sym w.if-has_arc.false ∙ answer) c.loop-a.invariant
    ]
