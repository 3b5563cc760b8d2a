use Rattle.road_text.proofs.PieceLemmas.{Appends_both, Appends_failed, Appends_exit}
use Rattle.route_server.proofs.graphs.put_check.Goals as goal

pub returns-in_err-put_numbered : goal.returns-in_err-put_numbered
returns-in_err-put_numbered g c = Appends_exit _ c.from_residual.ensures.0 (Appends_failed _ (Appends_failed _ (Appends_failed _ (rw (c.from.ensures, c.vertices.ensures.count) at c.in_err-put_numbered.ensures))))

pub returns-in_err-put : goal.returns-in_err-put
returns-in_err-put g c = Appends_exit _ c.from_residual-in_err-put.ensures.0 (Appends_failed _ (Appends_failed _ (Appends_both (rw (c.from.ensures, c.vertices.ensures.count) at c.in_ok-put_numbered.ensures) c.in_err-put.ensures)))

pub returns-in_err-put_number : goal.returns-in_err-put_number
returns-in_err-put_number g c =
    Appends_exit _ c.from_residual-in_err-put_number.ensures.0
    (Appends_failed _ (Appends_both (Appends_both (rw (c.from.ensures, c.vertices.ensures.count) at c.in_ok-put_numbered.ensures) c.in_ok-put.ensures) (rw c.arcs.ensures.rows at c.in_err-put_number.ensures)))

pub returns : goal.returns
returns g c =
    Appends_both (Appends_both (Appends_both (rw (c.from.ensures, c.vertices.ensures.count) at c.in_ok-put_numbered.ensures) c.in_ok-put.ensures) (rw c.arcs.ensures.rows at c.in_ok-put_number.ensures)) c.put-2.ensures
