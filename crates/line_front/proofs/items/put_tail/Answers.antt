use Rattle.road_text.proofs.PieceLemmas.{Appends_failed, Appends_exit}
use Rattle.line_front.proofs.items.put_tail.Goals as goal

pub returns-in_err-put_numbered : goal.returns-in_err-put_numbered
returns-in_err-put_numbered g c = Appends_exit _ c.from_residual.ensures.0 (Appends_failed _ (Appends_failed _ c.in_err-put_numbered.ensures))
