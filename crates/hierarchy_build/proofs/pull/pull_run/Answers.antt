use Rattle.std.proofs.Common.{◌≡◌, ◌<◌, ◌≤◌, ℕ, slice_index, subst, arith, ⊎_elim}
use Rattle.std.proofs.lemmas.Bool.{cases_lt}
use Rattle.hierarchy_build.specs.Lengths.{RunIsBeaten}
use Rattle.hierarchy_build.proofs.Pulls.{Pulls-joined, RunIsBeaten-kept, RunIsBeaten-from}
use Rattle.hierarchy_build.proofs.pull.pull_run.Goals as goal

pub loop-i-preserved : goal.loop-i-preserved
loop-i-preserved c =
    let n = c.args.ranks in
    let first = c.args.first.now in
    let head = c.args.head.now in
    let v = c.args.v in
    let so_far = c.loop-i.invariant.pulls in
    let more = c.pull_row.ensures.pulls in
    record {
      pulls = Pulls-joined n first head v c.args.up.now c.args.down.now c.loop-i.up c.loop-i.down c.pull_row.new.up c.pull_row.new.down so_far more;
      beaten = (λ k low span.
          ⊎_elim
          (λ (old : k < c.loop-i.i). RunIsBeaten-kept n first head v k c.args.up.now c.args.down.now c.loop-i.up c.loop-i.down c.pull_row.new.up c.pull_row.new.down c.requires.can.shape c.requires.rank span more (c.loop-i.invariant.beaten k old span))
          (λ (new : c.loop-i.i ≤ k).
          let same : c.loop-i.i ≡ k = omega arith in
          subst (λ (j : ℕ). RunIsBeaten c.args.first.now c.args.head.now c.args.v j c.args.up.now c.args.down.now c.pull_row.new.up c.pull_row.new.down) same
          (RunIsBeaten-from (slice_index first v) first head v c.loop-i.i c.args.up.now c.args.down.now c.loop-i.up c.loop-i.down c.pull_row.new.up c.pull_row.new.down so_far.keeps.rise so_far.keeps.fall c.pull_row.ensures.beaten))
          (cases_lt k c.loop-i.i));
    }

pub returns-clause-beaten : goal.returns-clause-beaten
returns-clause-beaten c = λ i span. (let high = span.high in let low = span.low in c.loop-i.invariant.beaten i (omega arith) span)
