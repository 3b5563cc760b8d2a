use Rattle.std.proofs.Common.{◌≡◌, None, sym, arith, refl, subst, ℕ}
use Rattle.road_model.specs.Graph.{IsVertex, step_at}
use Rattle.canonical_trees.proofs.Steps.{step_place}
use Rattle.recheck.specs.RowTests.{IsClosedAt}
use Rattle.recheck.proofs.RowSteps.{closed_in_all, closed_of_no_vertex}
use Rattle.recheck.proofs.row_tests.is_closed_at.Goals as goal

pub returns-in_default : goal.returns-in_default
returns-in_default g c =
    let none = c.in_default.ensures.value in
    let closed : IsClosedAt (g.M.Network.graph c.args.away.now) c.args.table.now c.args.row = closed_of_no_vertex (g.M.Network.graph c.args.away.now) c.args.table.now c.args.row c.vertices.ensures.sound (λ (v : IsVertex (g.M.Network.graph c.args.away.now).vertices c.args.row.vertex). none (subst (λ (n : ℕ). IsVertex n c.args.row.vertex) (sym c.vertices.ensures.count) v)) in
    (λ _. closed, λ _. refl)

pub overflow_add-i : goal.overflow_add-i
overflow_add-i g c =
    let place = step_place (g.M.Network.graph c.args.away.now) c.in-Some.vertex c.loop-step.i c.in-Some-out.step (sym c.in-Some-out.ensures) in
    omega arith

pub loop-step-smaller : goal.loop-step-smaller
loop-step-smaller g c =
    let place = step_place (g.M.Network.graph c.args.away.now) c.in-Some.vertex c.loop-step.i c.in-Some-out.step (sym c.in-Some-out.ensures) in
    omega arith

pub returns : goal.returns
returns g c =
    let none : step_at (g.M.Network.graph c.args.away.now) c.in-Some.vertex c.loop-step.i ≡ None = sym c.in_default-out.ensures in
    let closed : IsClosedAt (g.M.Network.graph c.args.away.now) c.args.table.now c.args.row = closed_in_all (g.M.Network.graph c.args.away.now) c.args.table.now c.args.row c.in-Some.vertex c.loop-step.i c.in-Some.ensures.value c.loop-step.invariant none in
    (λ _. closed, λ _. refl)
