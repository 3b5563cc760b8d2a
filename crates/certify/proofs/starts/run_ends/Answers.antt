use Rattle.std.proofs.Common.{ap, sym, ◌∙◌}
use Rattle.certify.proofs.StartRuns.{taken_push, taken_source, taken_same}
use Rattle.certify.proofs.starts.run_ends.Goals as goal
use Rattle.certify.proofs.starts.run_ends.Goals.{then-number+then-ends_run+in_ok-push, else-number, else-number-via-then-number+else-ends_run, else-number-via-else-number}

pub loop-place-preserved : goal.loop-place-preserved
loop-place-preserved c =
    let ss = c.args.sorted.now in
    let k = c.loop-place.place in
    let s = c.index-sorted-place.result in
    elim c.if-number.branch [
      | then-number+then-ends_run+in_ok-push w ↦
          let more = ap (λ x. x.items) w.kept-is in
          taken_push ss c.args.source k c.loop-place.kept.items c.if-number.kept.items s c.requires c.loop-place-test.true c.index-sorted-place.is
          (λ e. w.if-number.true (c.number.ensures.value ∙ (e ∙ sym c.number-in-loop-place.ensures.value))) w.if-ends_run.ensures (more ∙ w.in_ok-push.ensures.items) c.loop-place.invariant
      | else-number w ↦
          let kept = ap (λ x. x.items) w.kept-is in
          elim w.else-number.branch [
            | else-number-via-then-number+else-ends_run w' ↦
                taken_same ss c.args.source k c.loop-place.kept.items c.if-number.kept.items w'.if-ends_run.ensures kept c.loop-place.invariant
            | else-number-via-else-number w' ↦
                taken_source ss c.args.source k c.loop-place.kept.items c.if-number.kept.items s c.loop-place-test.true c.index-sorted-place.is
                (sym c.number.ensures.value ∙ (w'.if-number.false ∙ c.number-in-loop-place.ensures.value)) kept c.loop-place.invariant
          ]
    ]
