use Rattle.std.proofs.Common.{◌≡◌, ◌≤◌, None, sym, arith, refl, inr}
use Rattle.road_model.specs.Graph.{step_at}
use Rattle.canonical_trees.proofs.Steps.{step_place}
use Rattle.recheck.proofs.RowSteps.{least_up_to, least_in_all, not_least}
use Rattle.recheck.proofs.row_tests.is_least.Goals as goal

pub returns-then-number-row : goal.returns-then-number-row
returns-then-number-row g c =
    let number = c.number.ensures.value in
    let low : c.args.row.arc ≤ c.in-Some-out.step.arc = omega arith in
    let least = least_up_to (g.N.Network.graph c.args.toward.now) c.args.table.now.rows c.args.row c.in-Some.vertex c.loop-step.i c.in-Some-out.step c.in-Some.ensures.value c.loop-step.invariant (sym c.in-Some-out.ensures) low in
    (λ _. inr least, λ _. refl)

pub returns-then-is_tight_step : goal.returns-then-is_tight_step
returns-then-is_tight_step g c =
    let number = c.number.ensures.value in (
      λ no. absurd (let e : _ ≡ _ = no in cc),
      λ either. absurd (not_least (g.N.Network.graph c.args.toward.now) c.args.table.now.rows c.args.row c.in-Some.vertex c.loop-step.i c.in-Some-out.step c.in-Some.ensures.value (sym c.in-Some-out.ensures) (c.is_tight_step.ensures.0 c.if-is_tight_step.true) (omega arith) either),
    )

pub overflow_add-i : goal.overflow_add-i
overflow_add-i g c =
    let place = step_place (g.N.Network.graph c.args.toward.now) c.in-Some.vertex c.loop-step.i c.in-Some-out.step (sym c.in-Some-out.ensures) in
    omega arith

pub loop-step-smaller : goal.loop-step-smaller
loop-step-smaller g c =
    let place = step_place (g.N.Network.graph c.args.toward.now) c.in-Some.vertex c.loop-step.i c.in-Some-out.step (sym c.in-Some-out.ensures) in
    omega arith

pub returns : goal.returns
returns g c =
    let none : step_at (g.N.Network.graph c.args.toward.now) c.in-Some.vertex c.loop-step.i ≡ None = sym c.in_default-out.ensures in
    let least = least_in_all (g.N.Network.graph c.args.toward.now) c.args.table.now.rows c.args.row c.in-Some.vertex c.loop-step.i c.in-Some.ensures.value c.loop-step.invariant none in
    (λ _. inr least, λ _. refl)
