use Rattle.certificate_text.specs.Texts.{certificate_text}
use Rattle.certificate_text.specs.Parts.{text_of}
use Rattle.certificate_text.proofs.PutLemmas.{PutsOn_lost, PutsOn_sent}
use Rattle.certificate_text.proofs.TextLemmas.{certificate_parts}
use Rattle.certificate_text.proofs.write.put_certificate.Goals as goal

pub returns-in-Ok : goal.returns-in-Ok
returns-in-Ok g c =
    let certificate = c.args.certificate.now in
    PutsOn_sent (text_of certificate) (certificate_text certificate) (certificate_parts certificate) c.new-text.ensures.empty c.in-Ok.ensures
    (record { writes = c.send.ensures.writes; count = c.send.ensures.count; cause = c.send.ensures.cause })

pub returns-in-Err : goal.returns-in-Err
returns-in-Err g c =
    let certificate = c.args.certificate.now in
    PutsOn_lost (text_of certificate) (certificate_text certificate) (certificate_parts certificate) c.new-text.ensures.empty c.in-Err.ensures
