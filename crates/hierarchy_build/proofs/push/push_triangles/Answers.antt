use Rattle.std.proofs.Common.{◌≡◌, ◌+◌, ◌<◌, ◌≤◌, ℕ, get_or, arith, subst, ⊎_elim}
use Rattle.std.proofs.lemmas.Bool.{cases_lt}
use Rattle.hierarchy_build.specs.Runs.{InSpan}
use Rattle.hierarchy_build.proofs.Pushes.{Keeps-joined, Keeps-from, IsTight-kept}
use Rattle.hierarchy_build.proofs.push.push_triangles.Goals as goal

pub loop-v-preserved : goal.loop-v-preserved
loop-v-preserved c =
    let n = c.args.ranks in
    let first = c.args.first.now in
    let head = c.args.head.now in
    let v = c.loop-v.v in
    let from = get_or c.args.first.now (c.loop-v.v + 1) 0 in
    let more = c.push_run.ensures.keeps in
    let shape = c.requires.can.shape in
    record {
      keeps = Keeps-joined n first head 0 c.args.up.now c.args.down.now c.loop-v.up c.loop-v.down c.push_run.new.up c.push_run.new.down c.loop-v.invariant.keeps (Keeps-from n first head from 0 c.loop-v.up c.loop-v.down c.push_run.new.up c.push_run.new.down (omega arith) more);
      tight = (λ w i j k low at_i at_j lt across.
          ⊎_elim
          (λ (old : w < c.loop-v.v).
          let rise : get_or c.args.first.now (w + 1) 0 ≤ get_or c.args.first.now (c.loop-v.v + 1) 0 = c.requires.can.shape.rising (w + 1) (c.loop-v.v + 1) (omega arith) (omega arith) in
          let high_i = at_i.high in
          let high_j = at_j.high in
          IsTight-kept n first head from c.loop-v.up c.loop-v.down c.push_run.new.up c.push_run.new.down i j k more (omega arith) (omega arith) (c.loop-v.invariant.tight w i j k old at_i at_j lt across))
          (λ (new : c.loop-v.v ≤ w).
          let same : w ≡ c.loop-v.v = omega arith in
          let here : InSpan c.args.first.now c.loop-v.v i = subst (λ (x : ℕ). InSpan c.args.first.now x i) same at_i in
          let there : InSpan c.args.first.now c.loop-v.v j = subst (λ (x : ℕ). InSpan c.args.first.now x j) same at_j in
          c.push_run.ensures.tight i here j k there lt across)
          (cases_lt w c.loop-v.v));
    }

pub returns-clause-tight : goal.returns-clause-tight
returns-clause-tight c = λ w i j k low at_i at_j lt across. c.loop-v.invariant.tight w i j k (omega arith) at_i at_j lt across
