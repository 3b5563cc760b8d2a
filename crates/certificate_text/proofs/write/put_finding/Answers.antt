use Rattle.certificate_text.specs.Parts.{routes_text, vias_text}
use Rattle.certificate_text.proofs.PutLemmas.{PutsOn_both, PutsOn_exit, PutsOn_failed}
use Rattle.certificate_text.proofs.write.put_finding.Goals as goal

pub returns-in_err-put_optimum-in-Found : goal.returns-in_err-put_optimum-in-Found
returns-in_err-put_optimum-in-Found g c =
    rw c.in-Found.is
    (PutsOn_exit _ c.from_residual.ensures.0
    (PutsOn_failed (vias_text c.in-Found.vias) (PutsOn_failed (routes_text c.in-Found.routes) (rw c.as_slice.ensures at c.in_err-put_optimum-in-Found.ensures))))

pub returns-in_err-put_routes-in-Found : goal.returns-in_err-put_routes-in-Found
returns-in_err-put_routes-in-Found g c =
    rw c.in-Found.is
    (PutsOn_exit _ c.from_residual-in_err-put_routes-in-Found.ensures.0
    (PutsOn_failed (vias_text c.in-Found.vias)
    (PutsOn_both (rw c.as_slice.ensures at c.in_ok-put_optimum-in-Found.ensures) (rw c.as_slice-in-Found.ensures at c.in_err-put_routes-in-Found.ensures))))

pub returns-in_ok-put_routes-in-Found : goal.returns-in_ok-put_routes-in-Found
returns-in_ok-put_routes-in-Found g c =
    rw c.in-Found.is
    (PutsOn_both (PutsOn_both (rw c.as_slice.ensures at c.in_ok-put_optimum-in-Found.ensures) (rw c.as_slice-in-Found.ensures at c.in_ok-put_routes-in-Found.ensures))
    (rw c.as_slice-in-Found-2.ensures at c.put_vias.ensures))
