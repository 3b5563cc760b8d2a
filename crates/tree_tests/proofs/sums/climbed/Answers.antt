use Rattle.std.proofs.Common.{◌∙◌, sym, arith}
use Rattle.tree_tests.proofs.Climbs.{climb_start, climb_more, climb_known, climb_root, add_fits, nearer_up}
use Rattle.tree_tests.proofs.sums.climbed.Goals as goal

pub loop-rest-init : goal.loop-rest-init
loop-rest-init c = climb_start c.args.pair.now c.args.side c.args.ascending.now c.args.v c.distance-near.result c.requires.inside c.distance-near.ensures.is

pub overflow_add-result : goal.overflow_add-result
overflow_add-result c =
    let own = climb_known c.args.pair.now c.args.side c.args.ascending.now c.args.v c.loop-rest.at c.loop-rest.near c.loop-rest.sum c.in-Some.rest
    (c.requires.sums c.loop-rest.at c.in-Some.rest (sym c.known.ensures ∙ c.in-Some.is)) c.loop-rest.invariant in
    omega (arith, own.low c.distance-near.result c.distance-near.ensures.is, c.distance-near.ensures.short)

pub returns-in-Some : goal.returns-in-Some
returns-in-Some c =
    climb_known c.args.pair.now c.args.side c.args.ascending.now c.args.v c.loop-rest.at c.loop-rest.near c.loop-rest.sum c.in-Some.rest
    (c.requires.sums c.loop-rest.at c.in-Some.rest (sym c.known.ensures ∙ c.in-Some.is)) c.loop-rest.invariant

pub step_up-requires : goal.step_up-requires
step_up-requires c = c.loop-rest.invariant.inside

pub returns-in_default-step_up : goal.returns-in_default-step_up
returns-in_default-step_up c =
    climb_root c.args.pair.now c.args.side c.args.ascending.now c.args.v c.loop-rest.at c.loop-rest.near c.loop-rest.sum c.in_default-step_up.ensures c.loop-rest.invariant

pub overflow_add-sum : goal.overflow_add-sum
overflow_add-sum c =
    omega (
      arith,
      add_fits c.args.pair.now c.args.side c.args.ascending.now c.args.v c.loop-rest.at c.loop-rest.near c.loop-rest.sum c.weight-sum.result c.distance-near.result c.in-Some-step_up.step
          c.in-Some-step_up.ensures c.distance-near.ensures.is c.weight-sum.ensures c.loop-rest.invariant,
      c.distance-near.ensures.short,
    )

pub loop-rest-smaller : goal.loop-rest-smaller
loop-rest-smaller c =
    nearer_up c.args.pair.now c.args.side c.loop-rest.at c.loop-rest.near c.distance-near-in-loop-rest.result c.in-Some-step_up.step c.in-Some-step_up.ensures c.loop-rest.invariant.dist c.distance-near-in-loop-rest.ensures.is

pub loop-rest-preserved : goal.loop-rest-preserved
loop-rest-preserved c =
    climb_more c.args.pair.now c.args.side c.args.ascending.now c.args.v c.loop-rest.at c.loop-rest.near c.loop-rest.sum c.distance-near-in-loop-rest.result c.weight-sum.result c.in-Some-step_up.step
    c.in-Some-step_up.ensures c.distance-near-in-loop-rest.ensures.is c.weight-sum.ensures c.loop-rest.invariant
