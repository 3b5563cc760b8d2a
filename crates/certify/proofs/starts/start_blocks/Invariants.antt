use Rattle.std.proofs.Common.{map, take}
use Rattle.certify.specs.declared.starts.Start.{Start}
use Rattle.certify.proofs.RootTrees.{AreTrees}
use Rattle.certify.proofs.starts.start_blocks.Given as goal

abbrev pub invariant-loop-start : goal.invariant-loop-start
invariant-loop-start l = AreTrees l.star l.query l.others (map (λ (s : Start). s.vertex) (take l.start-index l.start-items)) l.blocks.items
