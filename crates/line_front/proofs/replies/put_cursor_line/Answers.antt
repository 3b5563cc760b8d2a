use Rattle.std.proofs.Common.{[], ◌∷◌}
use Rattle.route_ranking.specs.Cursors.{cursor_text}
use Rattle.road_text.proofs.PieceLemmas.{Appends_both, Appends_failed, Appends_exit}
use Rattle.line_front.proofs.replies.put_cursor_line.Goals as goal

pub returns-in_err-put : goal.returns-in_err-put
returns-in_err-put g c = Appends_exit _ c.from_residual.ensures.0 (Appends_failed (10 ∷ []) (Appends_failed (cursor_text c.args.cursor.now) c.in_err-put.ensures))

pub returns-in_err-write_cursor : goal.returns-in_err-write_cursor
returns-in_err-write_cursor g c = Appends_exit _ c.from_residual-in_err-write_cursor.ensures.0 (Appends_failed (10 ∷ []) (Appends_both c.in_ok-put.ensures c.in_err-write_cursor.ensures))

pub returns : goal.returns
returns g c = Appends_both (Appends_both c.in_ok-put.ensures c.in_ok-write_cursor.ensures) c.put-2.ensures
