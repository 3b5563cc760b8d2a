use Rattle.std.proofs.Common.{◌≡◌, ◌≢◌, None, arith, sym, ◌∙◌}
use Rattle.road_model.specs.Graph.{step_at}
use Rattle.canonical_trees.proofs.Steps.{step_place}
use Rattle.canonical_trees.proofs.StepsDown.{least_step, none_left}
use Rattle.canonical_trees.proofs.descent.step_down.Goals as goal

pub returns-then-is_tight : goal.returns-then-is_tight
returns-then-is_tight g c =
    let other : c.args.v ≢ c.args.root = (λ (e : c.args.v ≡ c.args.root). c.if-number.false (c.number.ensures.value ∙ e ∙ sym c.number-2.ensures.value)) in
    least_step (g.N.Network.graph c.args.net.now) c.args.root c.args.v c.in_ok-left.left c.loop-step.i c.args.labels.now c.in-Some.step c.requires other (sym c.in_ok-left.ensures.value) c.loop-step.invariant (sym c.in-Some.ensures) (c.is_tight.ensures.0 c.if-is_tight.true)

pub overflow_add-i : goal.overflow_add-i
overflow_add-i g c =
    let place = step_place (g.N.Network.graph c.args.net.now) c.args.v c.loop-step.i c.in-Some.step (sym c.in-Some.ensures) in
    omega arith

pub loop-step-smaller : goal.loop-step-smaller
loop-step-smaller g c =
    let place = step_place (g.N.Network.graph c.args.net.now) c.args.v c.loop-step.i c.in-Some.step (sym c.in-Some.ensures) in
    omega arith

pub returns : goal.returns
returns g c =
    let other : c.args.v ≢ c.args.root = (λ (e : c.args.v ≡ c.args.root). c.if-number.false (c.number.ensures.value ∙ e ∙ sym c.number-2.ensures.value)) in
    let none : step_at (g.N.Network.graph c.args.net.now) c.args.v c.loop-step.i ≡ None = sym c.in_default.ensures in
    absurd (none_left (g.N.Network.graph c.args.net.now) c.args.root c.args.v c.in_ok-left.left c.loop-step.i c.args.labels.now c.requires other (sym c.in_ok-left.ensures.value) c.loop-step.invariant none)
