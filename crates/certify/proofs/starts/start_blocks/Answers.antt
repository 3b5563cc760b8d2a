use Rattle.std.proofs.Common.{sym}
use Rattle.certify.proofs.RootTrees.{AreRoots, are_roots, root_vertex, tree_of_pair, trees_more, trees_all}
use Rattle.certify.proofs.starts.start_blocks.Goals as goal

pub trees_in-requires-clause-source : goal.trees_in-requires-clause-source
trees_in-requires-clause-source c =
    let g = c.args.star.now in
    let fs = c.as_slice-start-items.result.now in
    let roots : AreRoots g c.args.query.now c.args.others.now fs =
    are_roots g c.args.query.now c.args.others.now c.as_slice.result.now c.in_ok-starts.starts.items c.in_ok-starts-2.starts.items fs c.within_limits.ensures.is_graph c.requires.source c.as_slice.ensures c.in_ok-starts.ensures c.as_slice-start-items.ensures.value c.in_ok-starts-2.ensures in
    root_vertex g c.args.query.now c.args.others.now fs c.start-item.result roots (c.loop-start.start-index, c.loop-start-test.true, sym c.start-item.is)

pub trees_in-requires-clause-target : goal.trees_in-requires-clause-target
trees_in-requires-clause-target c =
    let g = c.args.star.now in
    let fs = c.as_slice-start-items.result.now in
    let roots : AreRoots g c.args.query.now c.args.others.now fs =
    are_roots g c.args.query.now c.args.others.now c.as_slice.result.now c.in_ok-starts.starts.items c.in_ok-starts-2.starts.items fs c.within_limits.ensures.is_graph c.requires.source c.as_slice.ensures c.in_ok-starts.ensures c.as_slice-start-items.ensures.value c.in_ok-starts-2.ensures in
    root_vertex g c.args.query.now c.args.others.now fs c.start-item.result roots (c.loop-start.start-index, c.loop-start-test.true, sym c.start-item.is)

pub loop-start-preserved : goal.loop-start-preserved
loop-start-preserved c =
    let g = c.args.star.now in
    let fs = c.as_slice-start-items.result.now in
    let s = c.start-item.result in
    let roots : AreRoots g c.args.query.now c.args.others.now fs =
    are_roots g c.args.query.now c.args.others.now c.as_slice.result.now c.in_ok-starts.starts.items c.in_ok-starts-2.starts.items fs c.within_limits.ensures.is_graph c.requires.source c.as_slice.ensures c.in_ok-starts.ensures c.as_slice-start-items.ensures.value c.in_ok-starts-2.ensures in
    trees_more g c.args.query.now c.args.others.now fs c.loop-start.start-index s c.loop-start.blocks.items c.push.new.self.items c.in_ok-from_block.field-0 roots
    c.loop-start-test.true c.start-item.is c.in_ok-push.ensures.items
    (tree_of_pair g s.vertex s.rest c.in_ok-pair.pair c.in_ok-from_block.field-0 c.in_ok-pair.ensures c.in_ok-from_block.ensures)
    c.loop-start.invariant

pub returns : goal.returns
returns c =
    let g = c.args.star.now in
    let fs = c.as_slice-start-items.result.now in
    let roots : AreRoots g c.args.query.now c.args.others.now fs =
    are_roots g c.args.query.now c.args.others.now c.as_slice.result.now c.in_ok-starts.starts.items c.in_ok-starts-2.starts.items fs c.within_limits.ensures.is_graph c.requires.source c.as_slice.ensures c.in_ok-starts.ensures c.as_slice-start-items.ensures.value c.in_ok-starts-2.ensures in
    trees_all g c.args.query.now c.args.others.now fs c.loop-start.start-index c.loop-start.blocks.items roots c.loop-start-test.false c.loop-start.invariant
