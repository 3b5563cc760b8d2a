use Rattle.certificate_text.specs.Texts.{Done}
use Rattle.certificate_text.specs.Parts.{finding_text, whole_line}
use Rattle.certificate_text.proofs.PutLemmas.{PutsOn_both, PutsOn_exit, PutsOn_failed, PutsOn_pushed}
use Rattle.certificate_text.proofs.write.put_lines.Goals as goal

pub returns-in_err-put_blocks : goal.returns-in_err-put_blocks
returns-in_err-put_blocks g c =
    PutsOn_exit _ c.from_residual.ensures.0
    (PutsOn_failed (whole_line Done) (PutsOn_failed (finding_text c.args.certificate.now.finding)
    (PutsOn_both (PutsOn_pushed c.push_first.ensures) (rw c.as_slice.ensures at c.in_err-put_blocks.ensures))))

pub returns-in_err-put_finding : goal.returns-in_err-put_finding
returns-in_err-put_finding g c =
    PutsOn_exit _ c.from_residual-in_err-put_finding.ensures.0
    (PutsOn_failed (whole_line Done) (PutsOn_both (PutsOn_both (PutsOn_pushed c.push_first.ensures) (rw c.as_slice.ensures at c.in_ok-put_blocks.ensures)) c.in_err-put_finding.ensures))

pub returns : goal.returns
returns g c =
    PutsOn_both (PutsOn_both (PutsOn_both (PutsOn_pushed c.push_first.ensures) (rw c.as_slice.ensures at c.in_ok-put_blocks.ensures)) c.in_ok-put_finding.ensures) c.put_word.ensures
