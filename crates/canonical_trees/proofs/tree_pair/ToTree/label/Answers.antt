use Rattle.std.proofs.Common.{subst}
use Rattle.canonical_trees.specs.Trees.{Tree, IsLabel}
use Rattle.canonical_trees.proofs.Balls.{label_to}
use Rattle.canonical_trees.proofs.WholePaths.{label_short}
use Rattle.canonical_trees.proofs.tree_pair.ToTree.label.Goals as goal

pub returns : goal.returns
returns c =
    let t = c.self.inside in
    let label = label_to t.star.now t.target c.args.v t.radius t.ball c.label.result c.self.invariant.tree c.label.ensures.value in
    record {
      label = subst (λ (x : Tree). IsLabel x.graph x.radius c.args.v x.root c.label.result) c.self.view_is label;
      short = label_short t.star.now t.radius c.args.v t.target c.label.result c.self.invariant.tree.limits label;
    }
