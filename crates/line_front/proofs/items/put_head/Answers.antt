use Rattle.road_text.proofs.PieceLemmas.{Appends_failed, Appends_exit}
use Rattle.line_front.proofs.items.put_head.Goals as goal

pub returns-in_err-put_numbered : goal.returns-in_err-put_numbered
returns-in_err-put_numbered g c = Appends_exit _ c.from_residual.ensures.0 (Appends_failed _ (Appends_failed _ (rw (c.from.ensures, c.number.ensures.value) at c.in_err-put_numbered.ensures)))
