use Rattle.std.proofs.Common.{refl}
use Rattle.certificate_text.specs.Texts.{numbers_text}
use Rattle.certificate_text.specs.Parts.{optimum_head}
use Rattle.certificate_text.proofs.PutLemmas.{PutsOn_exit, PutsOn_failed, PutsOn_line}
use Rattle.certificate_text.proofs.write.put_optimum.Goals as goal

pub returns-in_err-make_room : goal.returns-in_err-make_room
returns-in_err-make_room g c = PutsOn_exit _ c.from_residual.ensures.0 (PutsOn_failed _ c.in_err-make_room.ensures.sent)

pub returns : goal.returns
returns g c =
    PutsOn_line (optimum_head c.args.length) (numbers_text c.args.arcs.now) _ refl c.in_ok-make_room.ensures.sent c.push_optimum_head.ensures c.put_tail.ensures
