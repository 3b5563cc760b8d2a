use Rattle.std.proofs.Common.{arith}
use Rattle.hierarchy_query.proofs.Meets.{Meeting-more, IsMeeting-top}
use Rattle.hierarchy_query.proofs.climb.meet.Goals as goal

pub up-preserved : goal.up-preserved
up-preserved c =
    Meeting-more c.args.first.now c.args.head.now c.args.forward.now c.args.backward.now c.args.s c.up.x c.up.best c.min-best-in-up.result c.requires (omega (arith, c.up-test.true)) c.up.invariant (omega (arith, c.min-best-in-up.ensures))

pub returns : goal.returns
returns c =
    IsMeeting-top c.args.first.now c.args.head.now c.args.forward.now c.args.backward.now c.up.x c.up.best (omega (arith, c.up-test.false)) c.up.invariant
