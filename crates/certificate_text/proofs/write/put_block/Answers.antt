use Rattle.certificate_text.specs.Texts.{Heads, End}
use Rattle.certificate_text.specs.Parts.{rows_text, whole_line}
use Rattle.certificate_text.proofs.PutLemmas.{PutsOn_both, PutsOn_exit, PutsOn_failed, PutsOn_part}
use Rattle.certificate_text.proofs.write.put_block.Goals as goal

pub returns-in_err-make_room : goal.returns-in_err-make_room
returns-in_err-make_room g c =
    let b = c.args.block.now in
    PutsOn_exit _ c.from_residual.ensures.0
    (PutsOn_failed (whole_line End) (PutsOn_failed (rows_text b.rows) (PutsOn_failed (whole_line (Heads b.kind b.root b.radius)) c.in_err-make_room.ensures.sent)))

pub returns-in_err-put_rows : goal.returns-in_err-put_rows
returns-in_err-put_rows g c =
    PutsOn_exit _ c.from_residual-in_err-put_rows.ensures.0
    (PutsOn_failed (whole_line End) (PutsOn_both (PutsOn_part c.in_ok-make_room.ensures.sent c.push_block_head.ensures) (rw c.as_slice.ensures at c.in_err-put_rows.ensures)))

pub returns : goal.returns
returns g c = PutsOn_both (PutsOn_both (PutsOn_part c.in_ok-make_room.ensures.sent c.push_block_head.ensures) (rw c.as_slice.ensures at c.in_ok-put_rows.ensures)) c.put_word.ensures
