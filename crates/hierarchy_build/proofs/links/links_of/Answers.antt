use Rattle.std.proofs.Common.{length, arith}
use Rattle.hierarchy_build.proofs.Kept.{AreKept-all}
use Rattle.hierarchy_build.proofs.links.links_of.Goals as goal

pub returns : goal.returns
returns c =
    let shape = c.args.shape.now in
    AreKept-all (length shape.order) c.loop-v.v shape.first shape.head c.args.lengths.now c.args.thinned.now c.loop-v.links (omega (arith, c.len-v-end.ensures)) c.loop-v.invariant
