use Rattle.std.proofs.Common.{◌≡◌, ◌+◌, ◌-◌, arith}
use Rattle.hierarchy_build.proofs.Pulls.{AreBeaten-next, Keeps-next}
use Rattle.hierarchy_build.proofs.pull.pull_triangles.Goals as goal

pub sink-preserved : goal.sink-preserved
sink-preserved c =
    let n = c.args.ranks in
    let first = c.args.first.now in
    let head = c.args.head.now in
    let v = c.sink.v - 1 in
    let some = c.sink-test.true in
    let next : c.sink.v ≡ c.sink.v - 1 + 1 = omega arith in
    let inside = c.sink.invariant.inside in
    let pulls = c.pull_run.ensures.pulls in
    record {
      inside = omega arith;
      keeps = Keeps-next n first head v c.sink.v c.args.up.now c.args.down.now c.sink.up c.sink.down c.pull_run.new.up c.pull_run.new.down c.requires.can.shape next inside c.sink.invariant.keeps pulls;
      beaten = AreBeaten-next n first head v c.sink.v c.args.up.now c.args.down.now c.sink.up c.sink.down c.pull_run.new.up c.pull_run.new.down c.requires.can.shape next inside c.sink.invariant.keeps pulls c.sink.invariant.beaten c.pull_run.ensures.beaten;
    }

pub returns-clause-beaten : goal.returns-clause-beaten
returns-clause-beaten c = λ w i j x le inside at_i at_j lt across. c.sink.invariant.beaten w i j x (omega arith) inside at_i at_j lt across
