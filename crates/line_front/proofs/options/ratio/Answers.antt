use Rattle.std.proofs.Common.{◌+◌, ◌-◌, ℕ, List, length, drop, ◌∙◌, sym, arith}
use Rattle.std.proofs.lemmas.List.{take_all, length-drop}
use Rattle.line_front.proofs.RatioLemmas.{ratio_of-unsplit, ratio_of-split}
use Rattle.line_front.proofs.options.ratio.Goals as goal

pub returns-in_err-slash : goal.returns-in_err-slash
returns-in_err-slash c = let e = ratio_of-unsplit c.args.field.now (sym c.slash_place.ensures ∙ c.in_err-slash.was) in cc

pub returns : goal.returns
returns c =
    let field : List ℕ = c.args.field.now in
    let slash : ℕ = c.in_ok-slash.slash in
    let e = ratio_of-split field slash (sym c.slash_place.ensures ∙ c.in_ok-slash.was) in
    let rest = take_all (length field - (slash + 1)) (drop (slash + 1) field) (omega (arith, length-drop (slash + 1) field)) in
    cc
