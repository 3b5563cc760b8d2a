use Rattle.std.proofs.Common.{arith}
use Rattle.dimacs_reader.proofs.FastLemmas.{AreArcFields-from}
use Rattle.dimacs_reader.proofs.fast.arc_numbers.Goals as goal

pub returns : goal.returns
returns c =
    let t = c.in_ok-tail.ensures in
    let h = c.in_ok-head.ensures in
    let l = c.in_ok-length.ensures in
    AreArcFields-from c.args.line.now c.in_ok-tail.tail c.in_ok-head.head c.in_ok-length.length c.in_ok-tail.tail_end c.in_ok-head.head_end c.in_ok-length.end (omega arith) c.if-line-ne97.false c.if-line-ne32.false t (omega (arith, t.within, c.if-tail_end-line.false)) h (omega (arith, h.within, c.if-head_end-line.false)) l (omega arith)
