use Rattle.tree_tests.specs.Ancestors.{AreAncestors, IsLifted, opposite}
use Rattle.tree_tests.proofs.refusals.has_detour.Given as goal

abbrev pub invariant-loop-steps : goal.invariant-loop-steps
invariant-loop-steps l = AreAncestors l.pair l.side l.own × AreAncestors l.pair (opposite l.side) l.other × IsLifted l.pair (opposite l.side) l.w l.x
