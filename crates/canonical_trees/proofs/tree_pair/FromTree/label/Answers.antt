use Rattle.std.proofs.Common.{sym}
use Rattle.canonical_trees.proofs.Balls.{label_of}
use Rattle.canonical_trees.proofs.WholePaths.{label_short}
use Rattle.canonical_trees.proofs.tree_pair.FromTree.label.Goals as goal

pub returns-clause-short : goal.returns-clause-short
returns-clause-short c =
    let t = c.self.inside in
    label_short t.star.now t.radius t.source c.args.v c.label.result c.self.invariant.tree.limits
    (label_of t.star.now t.source c.args.v t.radius t.ball.labels c.label.result c.self.invariant.tree.ball.labelled (sym c.label.ensures.value))
