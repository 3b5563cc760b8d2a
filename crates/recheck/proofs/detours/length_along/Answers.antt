use Rattle.std.proofs.Common.{arith, refl}
use Rattle.recheck.proofs.DetourLemmas.{length_more}
use Rattle.recheck.proofs.detours.length_along.Goals as goal

pub loop-a-preserved : goal.loop-a-preserved
loop-a-preserved c =
    record {
      is = omega (arith, length_more c.args.star.now c.args.arcs.now c.loop-a.a-index _ c.length_of.result c.loop-a-test.true refl c.length_of.ensures.value);
      low = omega arith;
    }
