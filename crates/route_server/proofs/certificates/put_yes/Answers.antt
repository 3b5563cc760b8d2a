use Rattle.road_text.proofs.PieceLemmas.{Appends_both, Appends_failed, Appends_exit}
use Rattle.route_server.proofs.certificates.put_yes.Goals as goal

pub returns-in_err-put_numbered : goal.returns-in_err-put_numbered
returns-in_err-put_numbered g c = Appends_exit _ c.from_residual.ensures.0 (Appends_failed _ c.in_err-put_numbered.ensures)

pub returns : goal.returns
returns g c = Appends_both c.in_ok-put_numbered.ensures c.put.ensures
