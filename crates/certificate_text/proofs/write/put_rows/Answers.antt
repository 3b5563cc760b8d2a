use Rattle.std.proofs.Common.{refl, arith}
use Rattle.certificate_text.specs.declared.certificate.BlockRow.{BlockRow}
use Rattle.certificate_text.specs.Texts.{Row}
use Rattle.certificate_text.specs.Parts.{whole_line}
use Rattle.certificate_text.proofs.PutLemmas.{PutsOn_cut, PutsOn_exit, PutsOn_more}
use Rattle.certificate_text.proofs.write.put_rows.Goals as goal

pub returns-in_err-put_row : goal.returns-in_err-put_row
returns-in_err-put_row g c =
    PutsOn_exit _ c.from_residual.ensures.0
    (PutsOn_cut _ _ (λ (row : BlockRow). whole_line (Row row)) c.args.rows.now c.loop-row.row-index _ _ _ _ _ _ _ _ (omega arith) refl c.loop-row.invariant c.in_err-put_row.ensures)

pub loop-row-preserved : goal.loop-row-preserved
loop-row-preserved g c =
    PutsOn_more _ _ (λ (row : BlockRow). whole_line (Row row)) c.args.rows.now c.loop-row.row-index _ _ _ _ _ _ _ _ (omega arith) refl c.loop-row.invariant c.in_ok-put_row.ensures
