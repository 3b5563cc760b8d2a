use Rattle.std.proofs.Common.{◌+◌, ℕ, List, slice_index, sym, subst, arith}
use Rattle.hierarchy_build.specs.Runs.{InSpan, IsAcross}
use Rattle.hierarchy_build.proofs.Runs.{place_across, across_found}
use Rattle.hierarchy_build.proofs.Pushes.{lowered, RowSoFar, RowSoFar-more}
use Rattle.hierarchy_build.proofs.push.push_row.Goals as goal

pub place_of-k-requires : goal.place_of-k-requires
place_of-k-requires c =
    let j = c.loop-j.j in
    let low = c.requires.place.low in
    let at_j : InSpan c.args.first.now c.args.v j = record { low = omega arith; high = omega arith } in
    place_across c.args.ranks c.args.first.now c.args.head.now c.args.v c.args.i j c.loop-j.at c.requires.can.shape c.requires.rank c.requires.place at_j (omega arith)
    (λ k across. c.loop-j.invariant.next j k (omega arith) at_j across)

pub loop-j-preserved : goal.loop-j-preserved
loop-j-preserved c =
    let n = c.args.ranks in
    let first = c.args.first.now in
    let head = c.args.head.now in
    let j = c.loop-j.j in
    let k = c.place_of-k.result in
    let shape = c.requires.can.shape in
    let low = c.requires.place.low in
    let at_j : InSpan c.args.first.now c.args.v j = record { low = omega arith; high = omega arith } in
    let across : IsAcross c.args.first.now c.args.head.now c.args.i c.loop-j.j c.place_of-k.result =
    across_found n first head c.args.v c.args.i j c.loop-j.at k shape c.requires.rank c.requires.place at_j (omega arith) c.loop-j.invariant.beyond c.place_of-k.ensures.late c.place_of-k.ensures.found c.place_of-k.ensures.earliest
    (λ b over. c.loop-j.invariant.next j b (omega arith) at_j over) in
    let more = RowSoFar-more n first head c.args.up.now c.args.down.now c.loop-j.up c.loop-j.down c.args.v c.args.i j c.loop-j.at k c.requires.can c.requires.rank c.requires.place at_j (omega arith) c.loop-j.invariant across in
    subst (λ (xs : List ℕ). RowSoFar c.args.ranks c.args.first.now c.args.head.now c.args.up.now c.args.down.now xs c.lower-in-loop-j.new.lengths c.args.v c.args.i (c.loop-j.j + 1) (c.place_of-k.result + 1)) (sym c.lower.ensures)
    (subst (λ (xs : List ℕ). RowSoFar c.args.ranks c.args.first.now c.args.head.now c.args.up.now c.args.down.now (lowered c.loop-j.up c.place_of-k.result (slice_index c.loop-j.down c.args.i + slice_index c.loop-j.up c.loop-j.j)) xs c.args.v c.args.i (c.loop-j.j + 1) (c.place_of-k.result + 1)) (sym c.lower-in-loop-j.ensures) more)

pub returns-clause-tight : goal.returns-clause-tight
returns-clause-tight c = λ j k span lt across. (let high = span.high in c.loop-j.invariant.tight j k (omega arith) lt span across)
