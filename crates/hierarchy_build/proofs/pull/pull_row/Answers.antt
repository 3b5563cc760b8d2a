use Rattle.std.proofs.Common.{arith}
use Rattle.hierarchy_build.specs.Runs.{InSpan, IsAcross}
use Rattle.hierarchy_build.proofs.Runs.{place_across, across_found}
use Rattle.hierarchy_build.proofs.Pulls.{PulledSoFar-more}
use Rattle.hierarchy_build.proofs.pull.pull_row.Goals as goal

pub place_of-across-requires : goal.place_of-across-requires
place_of-across-requires c =
    let j = c.loop-j.j in
    let low = c.requires.place.low in
    let at_j : InSpan c.args.first.now c.args.v c.loop-j.j = record { low = omega arith; high = omega arith } in
    place_across c.args.ranks c.args.first.now c.args.head.now c.args.v c.args.i j c.loop-j.at c.requires.can.shape c.requires.rank c.requires.place at_j (omega arith)
    (λ k across. c.loop-j.invariant.next j k (omega arith) at_j across)

pub loop-j-preserved : goal.loop-j-preserved
loop-j-preserved c =
    let n = c.args.ranks in
    let first = c.args.first.now in
    let head = c.args.head.now in
    let j = c.loop-j.j in
    let x = c.place_of-across.result in
    let shape = c.requires.can.shape in
    let low = c.requires.place.low in
    let at_j : InSpan c.args.first.now c.args.v c.loop-j.j = record { low = omega arith; high = omega arith } in
    let across : IsAcross c.args.first.now c.args.head.now c.args.i c.loop-j.j c.place_of-across.result =
    across_found n first head c.args.v c.args.i j c.loop-j.at x shape c.requires.rank c.requires.place at_j (omega arith) c.loop-j.invariant.late c.place_of-across.ensures.late c.place_of-across.ensures.found c.place_of-across.ensures.earliest
    (λ b over. c.loop-j.invariant.next j b (omega arith) at_j over) in
    PulledSoFar-more n first head c.args.up.now c.args.down.now c.loop-j.up c.loop-j.down c.lower.new.lengths c.lower-in-loop-j.new.lengths c.lower-in-loop-j-2.new.lengths c.lower-in-loop-j-3.new.lengths c.args.v c.args.i j c.loop-j.at x c.requires.can c.requires.rank c.requires.place at_j (omega arith) c.loop-j.invariant across c.lower.ensures c.lower-in-loop-j.ensures c.lower-in-loop-j-2.ensures c.lower-in-loop-j-3.ensures

pub returns-clause-beaten : goal.returns-clause-beaten
returns-clause-beaten c = λ j x span lt across. (let high = span.high in c.loop-j.invariant.beaten j x (omega arith) span lt across)
