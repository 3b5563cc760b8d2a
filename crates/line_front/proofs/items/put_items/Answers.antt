use Rattle.road_text.proofs.PieceLemmas.{Appends_both, Appends_exit, Appends_failed}
use Rattle.line_front.proofs.ItemLemmas.{items_parts}
use Rattle.line_front.proofs.items.put_items.Goals as goal

pub returns-in_err-put_first : goal.returns-in_err-put_first
returns-in_err-put_first g c =
    Appends_exit _ c.from_residual.ensures.0
    (rw (← items_parts c.args.span.now c.args.optimum.now c.args.others.now) (Appends_failed _ c.in_err-put_first.ensures))

pub returns : goal.returns
returns g c =
    rw (← items_parts c.args.span.now c.args.optimum.now c.args.others.now)
    (Appends_both c.in_ok-put_first.ensures (rw (c.saturating_sub-from.ensures, c.saturating_sub-to.ensures) at c.put_routes.ensures))
