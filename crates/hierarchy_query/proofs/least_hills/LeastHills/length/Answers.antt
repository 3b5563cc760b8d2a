use Rattle.std.proofs.Common.{◌≡◌, length, rules}
use Rattle.hierarchy_query.proofs.KnownHills.{closed_read}
use Rattle.hierarchy_query.proofs.least_hills.LeastHills.length.Goals as goal

pub stack-requires-clause-closed : goal.stack-requires-clause-closed
stack-requires-clause-closed c =
    let h = c.args.hierarchy.now in
    let firsts : c.as_slice.result.now ≡ c.args.hierarchy.now.shape.first = search rules in
    let heads : c.as_slice-2.result.now ≡ c.args.hierarchy.now.shape.head = search rules in
    closed_read (length h.shape.order) h c.args.self.now.from c.args.self.now.least.items c.args.self.now.found.items c.as_slice.result.now c.as_slice-2.result.now c.deref.result.now firsts heads c.deref.ensures.value c.requires.hills.least
