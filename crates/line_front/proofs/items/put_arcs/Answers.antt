use Rattle.std.proofs.Common.{◌∷◌, ℕ, arith}
use Rattle.std.specs.Prelude.{decimal}
use Rattle.road_text.proofs.PieceLemmas.{Appends_cut, Appends_exit}
use Rattle.line_front.proofs.items.put_arcs.Goals as goal

pub returns-in_err-put_numbered : goal.returns-in_err-put_numbered
returns-in_err-put_numbered g c =
    Appends_exit _ c.from_residual.ensures.0
    (Appends_cut _ _ (λ (a : ℕ). 32 ∷ decimal a) c.args.arcs.now c.loop-arc.arc-index c.arc-item.result _ _ _ (omega arith) c.arc-item.is
    c.loop-arc.invariant (rw (c.from.ensures, c.number.ensures.value) at c.in_err-put_numbered.ensures))
