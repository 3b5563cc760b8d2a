use Rattle.std.proofs.Common.{List, map, ap, ◌∙◌, arith}
use Rattle.std.proofs.lemmas.List.{take_all}
use Rattle.road_model.specs.declared.rows.ArcRow.{ArcRow}
use Rattle.forward_star.proofs.star.lengths_of.Goals as goal

pub returns : goal.returns
returns c =
    c.loop-row.invariant ∙ ap (λ (rows : List ArcRow). map (λ (r : ArcRow). r.length) rows) (take_all c.loop-row.row-index c.args.rows.now (omega arith))
