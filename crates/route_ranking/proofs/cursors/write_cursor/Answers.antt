use Rattle.road_text.proofs.PieceLemmas.{Appends_both, Appends_failed, Appends_exit}
use Rattle.route_ranking.proofs.TextLemmas.{text_with-others}
use Rattle.route_ranking.proofs.cursors.write_cursor.Goals as goal

pub returns-in_err-put_number : goal.returns-in_err-put_number
returns-in_err-put_number g c =
    rw (← text_with-others c.args.cursor.now) (Appends_exit _ c.from_residual.ensures.0 (Appends_failed _ c.in_err-put_number.ensures))

pub returns : goal.returns
returns g c = rw (← text_with-others c.args.cursor.now) (Appends_both c.in_ok-put_number.ensures c.put_dotted.ensures)
