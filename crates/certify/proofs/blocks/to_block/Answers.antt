use Rattle.std.proofs.Common.{◌∙◌, refl}
use Rattle.certify.proofs.TreeRows.{to_tree_block}
use Rattle.certify.proofs.blocks.to_block.Goals as goal

pub returns : goal.returns
returns c =
    to_tree_block c.args.pair.now _ c.in_ok-rows.rows.items refl (c.number.ensures.value ∙ c.target.ensures.target) c.requires c.from_vec.ensures c.in_ok-rows.ensures
