use Rattle.std.proofs.Common.{subst}
use Rattle.canonical_trees.specs.Trees.{Tree, IsFromStep}
use Rattle.canonical_trees.proofs.Arcs.{rooted_scan_from, scan_from}
use Rattle.canonical_trees.proofs.KeptSteps.{steps_from_tree}
use Rattle.canonical_trees.proofs.tree_pair.FromTree.step.Goals as goal

pub step_at-requires-clause-rooted : goal.step_at-requires-clause-rooted
step_at-requires-clause-rooted c =
    let t = c.self.inside in
    rooted_scan_from t.star.now c.reversed.result t.source t.radius t.ball c.labels.result c.reversed.ensures c.labels.ensures c.self.invariant.tree

pub step_at-requires-clause-steps : goal.step_at-requires-clause-steps
step_at-requires-clause-steps c =
    let t = c.self.inside in
    steps_from_tree t.star.now c.reversed.result t.source t.ball c.labels.result t.steps c.reversed.ensures c.labels.ensures c.self.invariant.steps

pub returns : goal.returns
returns c =
    let t = c.self.inside in
    subst (λ (x : Tree). IsFromStep x.graph x.radius x.root c.args.v c.step_at.result) c.self.view_is
    (scan_from t.star.now c.reversed.result t.source c.args.v t.radius t.ball c.labels.result c.step_at.result c.reversed.ensures c.labels.ensures c.self.invariant.tree c.step_at.ensures)
