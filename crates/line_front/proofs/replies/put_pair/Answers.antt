use Rattle.road_text.proofs.PieceLemmas.{Appends_both, Appends_failed, Appends_exit}
use Rattle.line_front.proofs.replies.put_pair.Goals as goal

pub returns-in_err-put_numbered : goal.returns-in_err-put_numbered
returns-in_err-put_numbered g c = Appends_exit _ c.from_residual.ensures.0 (Appends_failed _ (Appends_failed _ (rw c.from.ensures at c.in_err-put_numbered.ensures)))

pub returns-in_err-put_numbered-2 : goal.returns-in_err-put_numbered-2
returns-in_err-put_numbered-2 g c = Appends_exit _ c.from_residual-in_err-put_numbered-2.ensures.0 (Appends_failed _ (Appends_both (rw c.from.ensures at c.in_ok-put_numbered.ensures) (rw c.from-2.ensures at c.in_err-put_numbered-2.ensures)))

pub returns : goal.returns
returns g c = Appends_both (Appends_both (rw c.from.ensures at c.in_ok-put_numbered.ensures) (rw c.from-2.ensures at c.in_ok-put_numbered-2.ensures)) c.put_numbered-3.ensures
