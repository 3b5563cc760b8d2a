use Rattle.std.proofs.Common.{◌∷◌, ℕ, List, get_or}
use Rattle.std.specs.Prelude.{decimal}
use Rattle.std.proofs.lemmas.List.{get_or_default}
use Rattle.road_text.proofs.PieceLemmas.{Appends_cut, Appends_exit}
use Rattle.route_ranking.proofs.cursors.put_dotted.Goals as goal

pub returns-in_err-put_numbered : goal.returns-in_err-put_numbered
returns-in_err-put_numbered g c =
    let ns : List ℕ = c.args.numbers.now in
    let i : ℕ = c.loop-number.number-index in
    let n : ℕ = get_or ns i 0 in
    Appends_exit _ c.from_residual.ensures.0
    (Appends_cut _ _ (λ (n : ℕ). 46 ∷ decimal n) ns i n _ _ _ c.loop-number-test.true (get_or_default ns i 0 n c.loop-number-test.true)
    c.loop-number.invariant c.in_err-put_numbered.ensures)
