use Rattle.canonical_trees.specs.Kept.{AreSteps}
use Rattle.canonical_trees.proofs.descent.keep_near.Given as goal

abbrev pub invariant-loop-v : goal.invariant-loop-v
invariant-loop-v g l = AreSteps (g.N.Network.graph l.net) l.root l.labels l.steps
