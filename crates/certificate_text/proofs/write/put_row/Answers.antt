use Rattle.certificate_text.proofs.PutLemmas.{PutsOn_exit, PutsOn_failed}
use Rattle.certificate_text.proofs.write.put_row.Goals as goal

pub returns-in_err-make_room : goal.returns-in_err-make_room
returns-in_err-make_room g c = PutsOn_exit _ c.from_residual.ensures.0 (PutsOn_failed _ c.in_err-make_room.ensures.sent)
