use Rattle.std.proofs.Common.{◌∙◌, ap, sym, subst, List, ℕ}
use Rattle.std.specs.List.Sorted.{IsStrictlyIncreasing}
use Rattle.std.proofs.lemmas.Bool.{iff_false}
use Rattle.certify.proofs.ViaLines.{lines_skipped, lines_pushed, lines_all}
use Rattle.certify.proofs.vias.rows_of.Goals as goal
use Rattle.certify.proofs.vias.rows_of.Goals.{then-is_near+in_ok-row_of+in_ok-push, else-is_near}

pub loop-v-preserved : goal.loop-v-preserved
loop-v-preserved c =
    let ground = c.args.ground.now in
    let vs = c.as_slice-v-items.result.now in
    let v = c.v-item.result in
    let ascending = subst (λ (l : List ℕ). IsStrictlyIncreasing l) (sym c.as_slice-v-items.ensures) c.from_members.ensures.ascending in
    elim c.if-is_near.branch [
      | then-is_near+in_ok-row_of+in_ok-push w ↦
          let more = ap (λ x. x.items) w.rows-is in
          lines_pushed ground.star.now ground.query.now ground.best.now.arcs ground.pair.now c.args.bound vs c.loop-v.v-index v c.loop-v.rows.items c.if-is_near.rows.items w.in_ok-row_of.field-0 ascending c.loop-v-test.true c.v-item.is
          (c.is_near.ensures.0 w.if-is_near.true) w.in_ok-row_of.ensures (more ∙ w.in_ok-push.ensures.items) c.loop-v.invariant
      | else-is_near w ↦
          lines_skipped ground.star.now ground.query.now ground.best.now.arcs ground.pair.now c.args.bound vs c.loop-v.v-index v c.loop-v.rows.items c.if-is_near.rows.items c.loop-v-test.true c.v-item.is
          (iff_false c.is_near.ensures w.if-is_near.false) (ap (λ x. x.items) w.rows-is) c.loop-v.invariant
    ]

pub returns : goal.returns
returns c =
    let ground = c.args.ground.now in
    lines_all ground.star.now ground.query.now ground.best.now ground.pair.now c.args.bound c.as_slice-v-items.result.now c.from_members.result.now c.loop-v.v-index c.loop-v.rows.items
    c.requires.posed c.requires.trees c.requires.bound c.from_members.ensures c.as_slice-v-items.ensures c.loop-v-test.false c.loop-v.invariant
