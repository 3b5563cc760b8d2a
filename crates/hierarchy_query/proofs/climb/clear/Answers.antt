use Rattle.std.proofs.Common.{length, arith}
use Rattle.hierarchy_query.proofs.Meets.{Clearing-more, IsBlank-top}
use Rattle.hierarchy_query.proofs.climb.clear.Goals as goal

pub up-preserved : goal.up-preserved
up-preserved c =
    Clearing-more (length c.args.labels.now) c.args.first.now c.args.head.now c.up.x c.up.labels c.requires.shape (omega (arith, c.up-test.true)) c.up.invariant

pub returns : goal.returns
returns c =
    IsBlank-top (length c.args.labels.now) c.args.first.now c.args.head.now c.up.x c.up.labels (omega (arith, c.up-test.false)) c.up.invariant
