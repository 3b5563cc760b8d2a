use Rattle.std.proofs.Common.{ℕ, Some, sym, ap, ◌∙◌, subst, arith}
use Rattle.std.proofs.lemmas.Bool.{false≢true}
use Rattle.road_model.specs.Graph.{IsVertex, reversed}
use Rattle.road_model.specs.Dist.{IsDist}
use Rattle.forward_star.proofs.Turned.{IsDist-reversed, IsWithinLimits-reversed}
use Rattle.canonical_trees.proofs.Steps.{step_place}
use Rattle.hierarchy_query.specs.Sources.{Source}
use Rattle.hierarchy_optimum.proofs.Back.{NoneFits-more, step_fits, some_fits, dist_back, head_vertex}
use Rattle.hierarchy_optimum.proofs.optimum.step_back.Goals as goal

pub distance-requires : goal.distance-requires
distance-requires c =
    let inside : IsVertex c.args.star.now.vertices c.in-Some.step.head = head_vertex c.args.star.now c.args.v c.loop-step.i c.in-Some.step c.within_limits.ensures.is_graph (sym c.in-Some.ensures) in
    subst (λ (n : ℕ). IsVertex n c.in-Some.step.head) (c.requires.same.vertices ∙ ap (λ (s : Source). s.graph.vertices) (sym c.loop-step.invariant.same)) inside

pub returns-then-is_tight-clause-step : goal.returns-then-is_tight-clause-step
returns-then-is_tight-clause-step c =
    let near : IsDist c.args.distances.now.graph c.args.distances.now.source c.in-Some.step.head c.in_ok-near.near = subst (λ (s : Source). IsDist s.graph s.source c.in-Some.step.head c.in_ok-near.near) c.loop-step.invariant.same c.in_ok-near.ensures.answer in
    step_fits c.args.star.now c.args.distances.now.source c.args.v c.args.left c.loop-step.i c.in-Some.step c.in_ok-near.near (IsDist-reversed c.args.star.now c.args.distances.now.source c.args.v (Some c.args.left) c.requires.left) c.loop-step.invariant.none (sym c.in-Some.ensures)
    (dist_back c.args.star.now c.args.distances.now.graph c.args.distances.now.source c.in-Some.step.head c.in_ok-near.near c.requires.same near) (c.is_tight.ensures.0 c.if-is_tight.true)

pub overflow_add-i : goal.overflow_add-i
overflow_add-i c =
    let place = step_place (reversed c.args.star.now) c.args.v c.loop-step.i c.in-Some.step (sym c.in-Some.ensures) in
    let few = (IsWithinLimits-reversed c.args.star.now c.within_limits.ensures).few_arcs in
    omega arith

pub loop-step-smaller : goal.loop-step-smaller
loop-step-smaller c =
    let place = step_place (reversed c.args.star.now) c.args.v c.loop-step.i c.in-Some.step (sym c.in-Some.ensures) in
    omega arith

pub loop-step-preserved : goal.loop-step-preserved
loop-step-preserved c =
    let near : IsDist c.args.distances.now.graph c.args.distances.now.source c.in-Some.step.head c.in_ok-near.near = subst (λ (s : Source). IsDist s.graph s.source c.in-Some.step.head c.in_ok-near.near) c.loop-step.invariant.same c.in_ok-near.ensures.answer in
    record {
      same = c.in_ok-near.ensures.same ∙ c.loop-step.invariant.same;
      none = NoneFits-more (reversed c.args.star.now) c.args.distances.now.source c.args.v c.args.left c.loop-step.i c.in-Some.step c.in_ok-near.near c.loop-step.invariant.none (sym c.in-Some.ensures)
          (dist_back c.args.star.now c.args.distances.now.graph c.args.distances.now.source c.in-Some.step.head c.in_ok-near.near c.requires.same near)
          (λ fits. false≢true (sym c.if-is_tight.false ∙ c.is_tight.ensures.1 fits));
    }

pub unreachable-requires : goal.unreachable-requires
unreachable-requires c =
    some_fits (reversed c.args.star.now) c.args.distances.now.source c.args.v c.args.left c.loop-step.i (IsDist-reversed c.args.star.now c.args.distances.now.source c.args.v (Some c.args.left) c.requires.left) c.requires.other c.loop-step.invariant.none (sym c.in_default.ensures)
