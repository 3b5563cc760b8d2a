use Rattle.std.proofs.Common.{arith}
use Rattle.certificate_text.specs.declared.certificate.Block.{Block}
use Rattle.certificate_text.specs.Parts.{block_text}
use Rattle.certificate_text.proofs.PutLemmas.{PutsOn_cut, PutsOn_exit, PutsOn_more}
use Rattle.certificate_text.proofs.write.put_blocks.Goals as goal

pub returns-in_err-put_block : goal.returns-in_err-put_block
returns-in_err-put_block g c =
    PutsOn_exit _ c.from_residual.ensures.0
    (PutsOn_cut _ _ (λ (block : Block). block_text block) c.args.blocks.now c.loop-block.block-index _ c.block-item.result _ _ _ _ _ _ (omega arith) c.block-item.is c.loop-block.invariant c.in_err-put_block.ensures)

pub loop-block-preserved : goal.loop-block-preserved
loop-block-preserved g c =
    PutsOn_more _ _ (λ (block : Block). block_text block) c.args.blocks.now c.loop-block.block-index _ c.block-item.result _ _ _ _ _ _ (omega arith) c.block-item.is c.loop-block.invariant c.in_ok-put_block.ensures
