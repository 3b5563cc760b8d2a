use Rattle.tree_tests.proofs.Climbs.{sum_beyond, sums_put}
use Rattle.tree_tests.proofs.sums.fill.Goals as goal

pub returns-in_default : goal.returns-in_default
returns-in_default c =
    sums_put c.args.pair.now c.args.side c.args.ascending.now c.loop-side.sums c.set.new.self c.loop-side.at c.number.result c.loop-side.left c.number.ensures.value c.set.ensures c.loop-side.invariant.table c.loop-side.invariant.sum

pub loop-side-preserved : goal.loop-side-preserved
loop-side-preserved c = record {
  inside = c.in-Some.ensures.inside;
  dist = c.distance-near-in-loop-side.ensures.is;
  sum = sum_beyond c.args.pair.now c.args.side c.args.ascending.now c.loop-side.at c.weight-left.result c.loop-side.left c.in-Some.step c.in-Some.ensures c.weight-left.ensures c.loop-side.invariant.sum;
  table = sums_put c.args.pair.now c.args.side c.args.ascending.now c.loop-side.sums c.set.new.self c.loop-side.at c.number.result c.loop-side.left c.number.ensures.value c.set.ensures c.loop-side.invariant.table c.loop-side.invariant.sum;
}
