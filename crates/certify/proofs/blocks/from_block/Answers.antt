use Rattle.std.proofs.Common.{◌∙◌, refl}
use Rattle.certify.proofs.TreeRows.{from_tree_block}
use Rattle.certify.proofs.blocks.from_block.Goals as goal

pub returns : goal.returns
returns c =
    from_tree_block c.args.pair.now _ c.in_ok-rows.rows.items refl (c.number.ensures.value ∙ c.source.ensures.source) c.requires c.from_vec.ensures c.in_ok-rows.ensures
