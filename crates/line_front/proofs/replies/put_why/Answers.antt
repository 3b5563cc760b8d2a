use Rattle.road_text.proofs.PieceLemmas.{Appends_both, Appends_failed, Appends_exit}
use Rattle.line_front.proofs.replies.put_why.Goals as goal

pub returns-in_err-put_ok : goal.returns-in_err-put_ok
returns-in_err-put_ok g c = Appends_exit _ c.from_residual.ensures.0 (Appends_failed _ (Appends_failed _ c.in_err-put_ok.ensures))

pub returns-in_err-put_verdict_line : goal.returns-in_err-put_verdict_line
returns-in_err-put_verdict_line g c = Appends_exit _ c.from_residual-in_err-put_verdict_line.ensures.0 (Appends_failed _ (Appends_both c.in_ok-put_ok.ensures c.in_err-put_verdict_line.ensures))
