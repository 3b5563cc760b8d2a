use Rattle.std.proofs.Common.{subst}
use Rattle.canonical_trees.specs.Trees.{Tree, IsToStep}
use Rattle.canonical_trees.proofs.Arcs.{rooted_scan_to, scan_to}
use Rattle.canonical_trees.proofs.KeptSteps.{steps_to_tree}
use Rattle.canonical_trees.proofs.tree_pair.ToTree.step.Goals as goal

pub step_at-requires-clause-rooted : goal.step_at-requires-clause-rooted
step_at-requires-clause-rooted c =
    let t = c.self.inside in
    rooted_scan_to t.star.now t.target t.radius t.ball c.labels.result c.labels.ensures c.self.invariant.tree

pub step_at-requires-clause-steps : goal.step_at-requires-clause-steps
step_at-requires-clause-steps c =
    let t = c.self.inside in
    steps_to_tree t.star.now t.target t.ball c.labels.result t.steps c.labels.ensures c.self.invariant.steps

pub returns : goal.returns
returns c =
    let t = c.self.inside in
    subst (λ (x : Tree). IsToStep x.graph x.radius c.args.v x.root c.step_at.result) c.self.view_is
    (scan_to t.star.now t.target c.args.v t.radius t.ball c.labels.result c.step_at.result c.labels.ensures c.self.invariant.tree c.step_at.ensures)
