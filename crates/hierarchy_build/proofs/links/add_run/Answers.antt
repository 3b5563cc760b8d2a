use Rattle.std.proofs.Common.{refl}
use Rattle.hierarchy_build.proofs.Kept.{KeptSoFar-read}
use Rattle.hierarchy_build.proofs.links.add_run.Goals as goal

pub returns : goal.returns
returns c =
    let old = c.args.links.now in
    let new = c.add_links.new.links in
    let shape = c.args.shape.now in
    KeptSoFar-read _ c.args.v c.len.result shape.first shape.head c.args.lengths.now c.args.thinned.now c.as_slice-first.result.now c.as_slice.result.now old new (record { first = c.push.new.self; head = new.head; length = new.length }) c.as_slice-first.ensures c.as_slice.ensures c.len.ensures c.requires.rank c.requires.so_far c.in_ok-add_links.ensures c.in_ok-push.ensures.ok refl refl
