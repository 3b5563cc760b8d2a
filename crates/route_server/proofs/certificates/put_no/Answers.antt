use Rattle.std.proofs.Common.{◌∙◌}
use Rattle.road_text.proofs.PieceLemmas.{Appends_both, Appends_failed, Appends_exit}
use Rattle.route_server.proofs.certificates.put_no.Goals as goal

pub returns-in_err-put_numbered : goal.returns-in_err-put_numbered
returns-in_err-put_numbered g c =
    Appends_exit _ c.from_residual.ensures.0 (Appends_failed _ (Appends_failed _ (Appends_failed _ c.in_err-put_numbered.ensures)))

pub returns-in_err-put : goal.returns-in_err-put
returns-in_err-put g c =
    Appends_exit _ c.from_residual-in_err-put.ensures.0 (Appends_failed _ (Appends_failed _ (Appends_both c.in_ok-put_numbered.ensures c.in_err-put.ensures)))

pub returns-in_err-put-2 : goal.returns-in_err-put-2
returns-in_err-put-2 g c =
    Appends_exit _ c.from_residual-in_err-put-2.ensures.0
    (Appends_failed _ (Appends_both (Appends_both c.in_ok-put_numbered.ensures c.in_ok-put.ensures) (rw (c.as_bytes.ensures.value ∙ c.word.ensures) at c.in_err-put-2.ensures)))

pub returns : goal.returns
returns g c =
    Appends_both (Appends_both (Appends_both c.in_ok-put_numbered.ensures c.in_ok-put.ensures) (rw (c.as_bytes.ensures.value ∙ c.word.ensures) at c.in_ok-put-2.ensures)) c.put-3.ensures
