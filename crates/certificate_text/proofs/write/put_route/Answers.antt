use Rattle.std.proofs.Common.{refl}
use Rattle.certificate_text.specs.Texts.{numbers_text}
use Rattle.certificate_text.specs.Parts.{route_head}
use Rattle.certificate_text.proofs.PutLemmas.{PutsOn_exit, PutsOn_failed, PutsOn_line}
use Rattle.certificate_text.proofs.write.put_route.Goals as goal

pub returns-in_err-make_room : goal.returns-in_err-make_room
returns-in_err-make_room g c = PutsOn_exit _ c.from_residual.ensures.0 (PutsOn_failed _ c.in_err-make_room.ensures.sent)

pub returns : goal.returns
returns g c =
    PutsOn_line (route_head c.args.route.now) (numbers_text c.args.route.now.arcs) _ refl c.in_ok-make_room.ensures.sent c.push_route_head.ensures
    (rw c.as_slice.ensures at c.put_tail.ensures)
