use Rattle.std.proofs.Common.{rules}
use Rattle.canonical_trees.proofs.Arcs.{rooted_scan_from, rooted_scan_to}
use Rattle.canonical_trees.proofs.KeptSteps.{short_turned, steps_from_tree, steps_to_tree}
use Rattle.canonical_trees.proofs.tree_pair.TreePair.keep_steps_forked.Goals as goal

pub join_mut-requires-after_bounds : goal.join_mut-requires-after_bounds
join_mut-requires-after_bounds g c κs within =
    let f = c.from.inside in
    let t = c.to.inside in (
      (
        short_turned f.star.now c.reversed-back.result c.from.invariant.tree.limits c.reversed-back.ensures,
        rooted_scan_from f.star.now c.reversed-back.result f.source f.radius f.ball c.labels-near.result c.reversed-back.ensures c.labels-near.ensures c.from.invariant.tree,
        steps_from_tree f.star.now c.reversed-back.result f.source f.ball c.labels-near.result f.steps c.reversed-back.ensures c.labels-near.ensures c.from.invariant.steps,
      ),
      (
        search rules,
        rooted_scan_to t.star.now t.target t.radius t.ball c.labels-far.result c.labels-far.ensures c.to.invariant.tree,
        steps_to_tree t.star.now t.target t.ball c.labels-far.result t.steps c.labels-far.ensures c.to.invariant.steps,
      ),
    )
