use Rattle.std.proofs.Common.{◌≡◌, drop}
use Rattle.recheck.specs.Lines.{line_after}
use Rattle.recheck.proofs.blocks.line_after.Given as goal

abbrev pub invariant-loop-block : goal.invariant-loop-block
invariant-loop-block l = line_after l.line (drop l.block-index l.blocks) ≡ line_after l.first l.blocks
