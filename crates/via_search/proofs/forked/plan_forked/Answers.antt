use Rattle.via_search.proofs.ForkedTests.{stay_same}
use Rattle.via_search.proofs.forked.plan_forked.Goals as goal

pub returns-in_err-optimum-clause-counted : goal.returns-in_err-optimum-clause-counted
returns-in_err-optimum-clause-counted g c =
    stay_same (λ o. g.O.Oracle.asked o) c.args.oracles.now
