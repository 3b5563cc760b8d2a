use Rattle.tree_tests.specs.Ancestors.{AreAncestors}
use Rattle.tree_tests.proofs.ancestors.fill.Given as goal

abbrev pub invariant-loop-v : goal.invariant-loop-v
invariant-loop-v l = AreAncestors l.pair l.side l.table

abbrev pub decreases-loop-v : goal.decreases-loop-v
decreases-loop-v l = goal.left-loop-v l
