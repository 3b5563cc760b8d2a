use Rattle.canonical_trees.specs.Trees.{Trees}
use Rattle.tree_tests.specs.declared.sides.Side.{Side as Which}
use Rattle.tree_tests.specs.Ancestors.{AreAncestors, IsLifted}
use Rattle.tree_tests.proofs.ancestors.ahead.Given as goal

abbrev pub invariant-loop : goal.invariant-loop
invariant-loop l = (ts : Trees) (side : Which) → AreAncestors ts side l.table → IsLifted ts side l.fn.x l.at
