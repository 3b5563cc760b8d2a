use Rattle.std.proofs.Common.{arith, refl}
use Rattle.recheck.proofs.SharedSums.{shared_more}
use Rattle.recheck.proofs.measures.shared_with.Goals as goal

pub loop-a-preserved : goal.loop-a-preserved
loop-a-preserved c =
    record {
      is = omega (arith, shared_more c.args.star.now c.args.optimum.now c.args.ascending.now c.loop-a.a-index _ c.weight.result c.loop-a-test.true refl c.weight.ensures.value);
      low = omega arith;
    }
