use Rattle.road_text.proofs.PieceLemmas.{Appends_both, Appends_failed, Appends_exit}
use Rattle.line_front.proofs.replies.put_page.Goals as goal

pub returns-in_err-put_ok : goal.returns-in_err-put_ok
returns-in_err-put_ok g c = Appends_exit _ c.from_residual.ensures.0 (Appends_failed _ (Appends_failed _ (Appends_failed _ c.in_err-put_ok.ensures)))

pub returns-in_err-put_shown : goal.returns-in_err-put_shown
returns-in_err-put_shown g c = Appends_exit _ c.from_residual-in_err-put_shown.ensures.0 (Appends_failed _ (Appends_failed _ (Appends_both c.in_ok-put_ok.ensures c.in_err-put_shown.ensures)))

pub returns-in_err-put_more : goal.returns-in_err-put_more
returns-in_err-put_more g c = Appends_exit _ c.from_residual-in_err-put_more.ensures.0 (Appends_failed _ (Appends_both (Appends_both c.in_ok-put_ok.ensures c.in_ok-put_shown.ensures) c.in_err-put_more.ensures))

pub returns : goal.returns
returns g c = Appends_both (Appends_both (Appends_both c.in_ok-put_ok.ensures c.in_ok-put_shown.ensures) c.in_ok-put_more.ensures) c.put_end.ensures
