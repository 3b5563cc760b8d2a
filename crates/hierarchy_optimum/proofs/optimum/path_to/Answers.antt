use Rattle.std.proofs.Common.{◌-◌, ℕ, List, Some, refl, sym, ◌∙◌, subst, arith}
use Rattle.road_model.specs.Dist.{IsDist, HaveSameDist}
use Rattle.hierarchy_query.specs.Sources.{Source}
use Rattle.hierarchy_optimum.specs.Back.{IsStepBack}
use Rattle.hierarchy_optimum.proofs.Back.{Going, step_long, Going-start, Going-more, Going-all}
use Rattle.hierarchy_optimum.proofs.optimum.path_to.Goals as goal

pub loop-left-init : goal.loop-left-init
loop-left-init c = record {
  same = refl;
  going = Going-start c.args.star.now c.args.distances.now.source c.args.t c.args.length c.new-arcs.result.items c.new-arcs.ensures.items c.requires.length;
}

pub step_back-requires-clause-same : goal.step_back-requires-clause-same
step_back-requires-clause-same c =
    subst (λ (s : Source). HaveSameDist c.args.star.now s.graph) (sym c.loop-left.invariant.same) c.requires.same

pub step_back-requires-clause-left : goal.step_back-requires-clause-left
step_back-requires-clause-left c =
    subst (λ (s : Source). IsDist c.args.star.now s.source c.loop-left.at (Some c.loop-left.left)) (sym c.loop-left.invariant.same) c.loop-left.invariant.going.dist

pub loop-left-smaller : goal.loop-left-smaller
loop-left-smaller c =
    let long = step_long c.args.star.now c.loop-left.distances.source c.loop-left.at c.loop-left.left c.in_ok-step.step c.within_limits.ensures.is_graph c.in_ok-step.ensures.step in
    omega arith

pub loop-left-preserved : goal.loop-left-preserved
loop-left-preserved c =
    let step : IsStepBack c.args.star.now c.args.distances.now.source c.loop-left.at c.loop-left.left c.in_ok-step.step = subst (λ (s : Source). IsStepBack c.args.star.now s.source c.loop-left.at c.loop-left.left c.in_ok-step.step) c.loop-left.invariant.same c.in_ok-step.ensures.step in
    let sum = step.sum in
    record {
      same = c.in_ok-step.ensures.same ∙ c.loop-left.invariant.same;
      going = subst (λ (xs : List ℕ). Going c.args.star.now c.args.distances.now.source c.args.t c.in_ok-step.step.head (c.loop-left.left - c.in_ok-step.step.length) xs) (sym c.in_ok-push.ensures.items)
          (Going-more c.args.star.now c.args.distances.now.source c.args.t c.loop-left.at c.loop-left.left (c.loop-left.left - c.in_ok-step.step.length) c.loop-left.arcs.items c.in_ok-step.step c.within_limits.ensures.is_graph (omega arith) step c.loop-left.invariant.going);
    }

pub returns-clause-path : goal.returns-clause-path
returns-clause-path c =
    Going-all c.args.star.now c.args.distances.now.source c.args.t c.loop-left.at c.loop-left.left c.loop-left.arcs.items c.from_vec.result c.within_limits.ensures.is_graph (omega (arith, c.loop-left-test.false)) (c.from_vec.ensures ∙ c.reverse.ensures.items) c.loop-left.invariant.going
