use Rattle.road_text.proofs.PieceLemmas.{Appends_both, Appends_failed, Appends_exit}
use Rattle.line_front.proofs.items.put_route.Goals as goal

pub returns-in_err-put_head : goal.returns-in_err-put_head
returns-in_err-put_head g c = Appends_exit _ c.from_residual.ensures.0 (Appends_failed _ (Appends_failed _ (Appends_failed _ c.in_err-put_head.ensures)))

pub returns-in_err-put_tail : goal.returns-in_err-put_tail
returns-in_err-put_tail g c = Appends_exit _ c.from_residual-in_err-put_tail.ensures.0 (Appends_failed _ (Appends_failed _ (Appends_both c.in_ok-put_head.ensures c.in_err-put_tail.ensures)))

pub returns-in_err-put_arcs : goal.returns-in_err-put_arcs
returns-in_err-put_arcs g c = Appends_exit _ c.from_residual-in_err-put_arcs.ensures.0 (Appends_failed _ (Appends_both (Appends_both c.in_ok-put_head.ensures c.in_ok-put_tail.ensures) (rw c.as_slice.ensures at c.in_err-put_arcs.ensures)))

pub returns : goal.returns
returns g c = Appends_both (Appends_both (Appends_both c.in_ok-put_head.ensures c.in_ok-put_tail.ensures) (rw c.as_slice.ensures at c.in_ok-put_arcs.ensures)) c.put.ensures
