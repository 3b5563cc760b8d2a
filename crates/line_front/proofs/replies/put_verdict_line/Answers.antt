use Rattle.road_text.proofs.PieceLemmas.{Appends_both, Appends_failed, Appends_exit}
use Rattle.line_front.proofs.replies.put_verdict_line.Goals as goal

pub returns-in_err-put_numbered : goal.returns-in_err-put_numbered
returns-in_err-put_numbered g c = Appends_exit _ c.from_residual.ensures.0 (Appends_failed _ (Appends_failed _ (Appends_failed _ c.in_err-put_numbered.ensures)))

pub returns-in_err-put : goal.returns-in_err-put
returns-in_err-put g c = Appends_exit _ c.from_residual-in_err-put.ensures.0 (Appends_failed _ (Appends_failed _ (Appends_both c.in_ok-put_numbered.ensures c.in_err-put.ensures)))

pub returns-in_err-put_verdict : goal.returns-in_err-put_verdict
returns-in_err-put_verdict g c = Appends_exit _ c.from_residual-in_err-put_verdict.ensures.0 (Appends_failed _ (Appends_both (Appends_both c.in_ok-put_numbered.ensures c.in_ok-put.ensures) c.in_err-put_verdict.ensures))

pub returns : goal.returns
returns g c = Appends_both (Appends_both (Appends_both c.in_ok-put_numbered.ensures c.in_ok-put.ensures) c.in_ok-put_verdict.ensures) c.put-2.ensures
