use Rattle.route_server.proofs.CheckingLemmas.{says_answered}
use Rattle.route_server.proofs.certificates.recheck_named.Goals as goal

pub returns-in-Ok-judge-clause-says : goal.returns-in-Ok-judge-clause-says
returns-in-Ok-judge-clause-says g c =
    says_answered _ _ _ _ c.args.name.now c.args.other.now c.in-Ok.graph c.in-Ok-build.star c.in-Ok-judge.answer c.say.result
    c.in-Ok-build.ensures c.in-Ok.ensures.loads c.in-Ok.ensures.kept c.in-Ok-judge.ensures.judges c.say.ensures.answered
