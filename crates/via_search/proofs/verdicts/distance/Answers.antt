use Rattle.std.proofs.lemmas.Result.{IfOk-weaker}
use Rattle.via_search.proofs.PathsThrough.{dist_here, dist_short}
use Rattle.via_search.proofs.verdicts.distance.Goals as goal

pub returns-clause-short : goal.returns-clause-short
returns-clause-short g c =
    IfOk-weaker c.distance.result _ _
    (λ d answer. dist_short c.args.star.now c.args.from c.args.to d c.within_limits.ensures (dist_here c.args.star.now (g.O.Oracle.graph c.args.oracle.now) c.args.from c.args.to d c.requires.same answer))
    c.distance.ensures.answer
