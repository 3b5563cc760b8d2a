use Rattle.std.proofs.Common.{◌≡◌, ◌-◌, List, ℕ, ◌∷◌, drop, take, length, sym, ap, ◌∙◌, arith}
use Rattle.std.specs.List.{between}
use Rattle.std.proofs.lemmas.List.{take_all, length-drop}
use Rattle.road_text.specs.Fields.{fields_of}
use Rattle.road_text.proofs.FieldLemmas.{fields_of-found, fields_of-none}
use Rattle.road_text.proofs.fields.first_field.Goals as goal

pub returns-then-from-to-clause-cut : goal.returns-then-from-to-clause-cut
returns-then-from-to-clause-cut c =
    let from = c.skip_blanks-from in
    let to = c.skip_field-to in
    sym from.ensures.same ∙ fields_of-none c.args.line.now from.result to.result (omega (arith, c.if-from-to.true)) from.ensures.stops to.ensures.stops

pub returns-clause-cut : goal.returns-clause-cut
returns-clause-cut c =
    let line : List ℕ = c.args.line.now in
    let from = c.skip_blanks-from in
    let to = c.skip_field-to in
    let rest : take (length line - to.result) (drop to.result line) ≡ drop to.result line = take_all (length line - to.result) (drop to.result line) (omega (arith, length-drop to.result line)) in
    sym from.ensures.same
    ∙ fields_of-found line from.result to.result (omega (arith, c.if-from-to.false, to.ensures.low)) to.ensures.high to.ensures.passed to.ensures.stops
    ∙ ap (λ (bs : List ℕ). between from.result to.result line ∷ fields_of bs) (sym rest)
