use Rattle.via_search.proofs.ForkedTests.{stay_same}
use Rattle.via_search.proofs.forked.plan_forked_with.Goals as goal

pub returns-in_default-clause-counted : goal.returns-in_default-clause-counted
returns-in_default-clause-counted g c =
    stay_same (λ o. g.O.Oracle.asked o) c.args.oracles.now
