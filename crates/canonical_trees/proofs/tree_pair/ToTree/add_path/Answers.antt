use Rattle.std.proofs.Common.{sym, subst}
use Rattle.canonical_trees.specs.Trees.{Tree, IsInside}
use Rattle.canonical_trees.proofs.Arcs.{rooted_scan_to}
use Rattle.canonical_trees.proofs.KeptSteps.{steps_to_tree}
use Rattle.canonical_trees.proofs.WholePaths.{labelled_to}
use Rattle.canonical_trees.proofs.tree_pair.ToTree.add_path.Goals as goal

pub follow-requires-clause-rooted : goal.follow-requires-clause-rooted
follow-requires-clause-rooted c =
    let t = c.self.inside in
    rooted_scan_to t.star.now t.target t.radius t.ball c.labels.result c.labels.ensures c.self.invariant.tree

pub follow-requires-clause-steps : goal.follow-requires-clause-steps
follow-requires-clause-steps c =
    let t = c.self.inside in
    steps_to_tree t.star.now t.target t.ball c.labels.result t.steps c.labels.ensures c.self.invariant.steps

pub follow-requires-clause-labelled : goal.follow-requires-clause-labelled
follow-requires-clause-labelled c =
    let t = c.self.inside in
    let inside = subst (λ (x : Tree). IsInside x.graph x.radius c.args.v x.root) (sym c.self.view_is) c.requires in
    labelled_to t.star.now t.target c.args.v t.radius t.ball c.labels.result c.labels.ensures c.self.invariant.tree inside
