use Rattle.certificate_text.specs.declared.certificate.BlockKind.TheVariants as kind
use Rattle.recheck.specs.Tables.{HasPlaces}
use Rattle.recheck.proofs.block_table.BlockTable.build.Given as goal

abbrev pub invariant-loop-i : goal.invariant-loop-i
invariant-loop-i l = record { from : HasPlaces l.blocks kind.From l.i l.from; to : HasPlaces l.blocks kind.To l.i l.to }
