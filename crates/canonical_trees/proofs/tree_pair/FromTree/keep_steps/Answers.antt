use Rattle.canonical_trees.proofs.Arcs.{rooted_scan_from}
use Rattle.canonical_trees.proofs.KeptSteps.{short_turned}
use Rattle.canonical_trees.proofs.tree_pair.FromTree.keep_steps.Goals as goal

pub keep_near-requires-clause-short : goal.keep_near-requires-clause-short
keep_near-requires-clause-short c =
    short_turned c.self.inside.star.now c.reversed.result c.self.invariant.tree.limits c.reversed.ensures

pub keep_near-requires-clause-rooted : goal.keep_near-requires-clause-rooted
keep_near-requires-clause-rooted c =
    let t = c.self.inside in
    rooted_scan_from t.star.now c.reversed.result t.source t.radius t.ball c.labels.result c.reversed.ensures c.labels.ensures c.self.invariant.tree
