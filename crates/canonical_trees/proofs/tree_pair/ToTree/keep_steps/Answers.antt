use Rattle.canonical_trees.proofs.Arcs.{rooted_scan_to}
use Rattle.canonical_trees.proofs.tree_pair.ToTree.keep_steps.Goals as goal

pub keep_near-requires-clause-rooted : goal.keep_near-requires-clause-rooted
keep_near-requires-clause-rooted c =
    let t = c.self.inside in
    rooted_scan_to t.star.now t.target t.radius t.ball c.labels.result c.labels.ensures c.self.invariant.tree
