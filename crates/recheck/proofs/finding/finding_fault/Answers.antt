use Rattle.std.proofs.Common.{refl}
use Rattle.certificate_text.specs.declared.certificate.BlockKind.TheVariants as kind
use Rattle.recheck.specs.Rows.{block_of}
use Rattle.recheck.proofs.BlockTrees.{rise_in}
use Rattle.recheck.proofs.finding.finding_fault.Goals as goal

pub is_cut_off-requires : goal.is_cut_off-requires
is_cut_off-requires c = λ root. rise_in c.args.star.now c.args.table.now kind.From root (block_of c.args.table.now kind.From root) c.requires.stand refl
