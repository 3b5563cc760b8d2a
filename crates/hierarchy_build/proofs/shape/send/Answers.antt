use Rattle.std.proofs.Common.{length, get_or, refl, arith, inl}
use Rattle.hierarchy_build.proofs.Waits.{IsSent-more, IsSent-shorter}
use Rattle.hierarchy_build.proofs.shape.send.Goals as goal

pub loop-i-preserved : goal.loop-i-preserved
loop-i-preserved c =
    record {
      sent = IsSent-more c.args.run.now (get_or c.args.run.now 0 0) c.loop-i.i (get_or c.args.run.now c.loop-i.i 0) c.args.pending.now c.loop-i.pending c.put.new.self (omega arith) refl c.loop-i.invariant.sent c.in_ok-put.ensures;
      few = inl (omega arith);
    }

pub returns : goal.returns
returns c = IsSent-shorter c.args.run.now (get_or c.args.run.now 0 0) c.loop-i.i (length c.args.run.now) c.args.pending.now c.loop-i.pending (omega arith) c.loop-i.invariant.few c.loop-i.invariant.sent
