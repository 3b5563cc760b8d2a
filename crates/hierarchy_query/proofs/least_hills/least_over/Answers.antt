use Rattle.std.proofs.Common.{rules}
use Rattle.hierarchy_build.specs.Runs.{InSpan}
use Rattle.hierarchy_query.proofs.KnownHills.{LeastSoFar-more}
use Rattle.hierarchy_query.proofs.least_hills.least_over.Goals as goal

pub loop-k-preserved : goal.loop-k-preserved
loop-k-preserved c =
    let span : InSpan c.args.down.now.first c.args.x c.loop-k.k = search rules in
    LeastSoFar-more c.args.down.now c.args.x c.loop-k.k c.args.rise c.args.least.now c.loop-k.best c.min-best.result span (search rules) c.loop-k.invariant
