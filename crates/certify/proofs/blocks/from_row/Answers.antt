use Rattle.std.proofs.Common.{◌∙◌}
use Rattle.certify.proofs.TreeRows.{row_as, from_last, from_root}
use Rattle.certify.proofs.blocks.from_row.Goals as goal
use Rattle.certify.proofs.blocks.from_row.Goals.{in-Some-from_arc, in-None}

pub returns : goal.returns
returns c =
    let ts = c.args.pair.now in
    let v = c.args.v in
    elim c.match-from_arc.branch [
      | in-Some-from_arc w ↦
          row_as _ _ _ v c.in-Some.label w.in-Some-from_arc.last c.number-2.result c.match-from_arc.arc c.number-2.ensures.value (w.arc-is ∙ w.number.ensures.value)
          (from_last ts.graph ts.radius ts.source v c.in-Some.label w.in-Some-from_arc.last c.requires c.in-Some.ensures.label w.in-Some-from_arc.ensures)
      | in-None w ↦
          row_as _ _ _ v c.in-Some.label 0 c.number-2.result c.match-from_arc.arc c.number-2.ensures.value w.arc-is
          (from_root ts.graph ts.radius ts.source v c.in-Some.label c.requires c.in-Some.ensures.label w.in-None.ensures)
    ]
