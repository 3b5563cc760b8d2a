use Rattle.std.proofs.Common.{◌≡◌, ◌+◌, ◌<◌, ◌≤◌, ℕ, get_or, arith, subst, ⊎_elim}
use Rattle.std.proofs.lemmas.Bool.{cases_lt}
use Rattle.hierarchy_build.specs.Lengths.{RunIsTight}
use Rattle.hierarchy_build.proofs.Pushes.{Keeps-joined, IsTight-kept}
use Rattle.hierarchy_build.proofs.push.push_run.Goals as goal

pub loop-i-preserved : goal.loop-i-preserved
loop-i-preserved c =
    let from = get_or c.args.first.now (c.args.v + 1) 0 in
    let more = c.push_row.ensures.keeps in
    record {
      keeps = Keeps-joined c.args.ranks c.args.first.now c.args.head.now from c.args.up.now c.args.down.now c.loop-i.up c.loop-i.down c.push_row.new.up c.push_row.new.down c.loop-i.invariant.keeps more;
      tight = (λ i low span j k at_j lt across.
          ⊎_elim
          (λ (old : i < c.loop-i.i). IsTight-kept c.args.ranks c.args.first.now c.args.head.now from c.loop-i.up c.loop-i.down c.push_row.new.up c.push_row.new.down i j k more span.high at_j.high (c.loop-i.invariant.tight i old span j k at_j lt across))
          (λ (new : c.loop-i.i ≤ i).
          let same : c.loop-i.i ≡ i = omega arith in
          let here : RunIsTight c.args.first.now c.args.head.now c.push_row.new.up c.push_row.new.down c.args.v i = subst (λ (n : ℕ). RunIsTight c.args.first.now c.args.head.now c.push_row.new.up c.push_row.new.down c.args.v n) same c.push_row.ensures.tight in
          here j k at_j lt across)
          (cases_lt i c.loop-i.i));
    }

pub returns-clause-tight : goal.returns-clause-tight
returns-clause-tight c = λ i span j k at_j lt across. (let high = span.high in let low = span.low in c.loop-i.invariant.tight i (omega arith) span j k at_j lt across)
