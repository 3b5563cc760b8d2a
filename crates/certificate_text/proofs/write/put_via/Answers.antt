use Rattle.std.proofs.Common.{sym}
use Rattle.certificate_text.specs.Texts.{numbers_text}
use Rattle.certificate_text.specs.Parts.{reason_detour, via_head}
use Rattle.certificate_text.proofs.PutLemmas.{PutsOn_exit, PutsOn_failed, PutsOn_line}
use Rattle.certificate_text.proofs.TextLemmas.{via_parts}
use Rattle.certificate_text.proofs.write.put_via.Goals as goal

pub returns-in_err-make_room : goal.returns-in_err-make_room
returns-in_err-make_room g c = PutsOn_exit _ c.from_residual.ensures.0 (PutsOn_failed _ c.in_err-make_room.ensures.sent)

pub returns : goal.returns
returns g c =
    let via = c.args.via.now in
    PutsOn_line (via_head via) (numbers_text (reason_detour via.reason)) _ (sym (via_parts via)) c.in_ok-make_room.ensures.sent c.push_via_head.ensures
    (rw c.detour.ensures at c.put_tail.ensures)
