use Rattle.std.proofs.Common.{◌≡◌, ◌∙◌, ap, get_or, refl, subst, ℕ}
use Rattle.std.proofs.lemmas.Bool.{iff_false}
use Rattle.certificate_text.specs.declared.certificate.BlockRow.{BlockRow}
use Rattle.recheck.specs.Paths.{Ground}
use Rattle.recheck.specs.Standing.{IsRising}
use Rattle.recheck.proofs.NearLemmas.{AreNears-of, nears_pushed, nears_skipped}
use Rattle.recheck.proofs.near.near_vertices.Goals as goal
use Rattle.recheck.proofs.near.near_vertices.Goals.{then-is_near+in_ok-push, else-is_near}

pub loop-row-preserved : goal.loop-row-preserved
loop-row-preserved c =
    let rows = c.basis.inside.from_rows.now in
    let d : BlockRow = record { vertex = 0; label = 0; arc = 0 } in
    let v : ℕ = (get_or rows c.loop-row.row-index d).vertex in
    elim c.if-is_near.branch [
      | then-is_near+in_ok-push w ↦
          let more : c.if-is_near.vertices.items ≡ w.push.new.self.items = ap (λ x. x.items) w.vertices-is in
          nears_pushed c.args.basis.now rows c.loop-row.row-index v d c.loop-row.vertices.items c.if-is_near.vertices.items c.loop-row-test.true refl c.loop-row.invariant
          (c.is_near.ensures.0 w.if-is_near.true) (more ∙ w.in_ok-push.ensures.items)
      | else-is_near w ↦
          let same : c.if-is_near.vertices.items ≡ c.loop-row.vertices.items = ap (λ x. x.items) w.vertices-is in
          same ∙ nears_skipped c.args.basis.now rows c.loop-row.row-index v d c.loop-row.vertices.items c.loop-row-test.true refl c.loop-row.invariant
          (iff_false c.is_near.ensures w.if-is_near.false)
    ]

pub returns : goal.returns
returns c =
    AreNears-of c.args.basis.now c.basis.inside.from_rows.now c.loop-row.vertices.items c.loop-row.row-index
    (ap (λ (o : Ground). o.from_rows) c.basis.view_is)
    (subst (λ (o : Ground). IsRising o.from_rows) c.basis.view_is c.basis.invariant.from.rising)
    c.loop-row-test.false c.loop-row.invariant
