use Rattle.std.proofs.Common.{arith}
use Rattle.certificate_text.specs.declared.certificate.ViaRow.{ViaRow}
use Rattle.certificate_text.specs.Texts.{Via}
use Rattle.certificate_text.specs.Parts.{whole_line}
use Rattle.certificate_text.proofs.PutLemmas.{PutsOn_cut, PutsOn_exit, PutsOn_more}
use Rattle.certificate_text.proofs.write.put_vias.Goals as goal

pub returns-in_err-put_via : goal.returns-in_err-put_via
returns-in_err-put_via g c =
    PutsOn_exit _ c.from_residual.ensures.0
    (PutsOn_cut _ _ (λ (via : ViaRow). whole_line (Via via)) c.args.vias.now c.loop-via.via-index _ c.via-item.result _ _ _ _ _ _ (omega arith) c.via-item.is c.loop-via.invariant c.in_err-put_via.ensures)

pub loop-via-preserved : goal.loop-via-preserved
loop-via-preserved g c =
    PutsOn_more _ _ (λ (via : ViaRow). whole_line (Via via)) c.args.vias.now c.loop-via.via-index _ c.via-item.result _ _ _ _ _ _ (omega arith) c.via-item.is c.loop-via.invariant c.in_ok-put_via.ensures
