use Rattle.route_server.proofs.CertifyingLemmas.{outside_loaded}
use Rattle.route_server.proofs.certifying.certify_named.Goals as goal

pub returns-in-Ok-clause-outside : goal.returns-in-Ok-clause-outside
returns-in-Ok-clause-outside g c e =
    outside_loaded _ c.args.name.now c.in-Ok.graph c.args.ends c.in-Ok.ensures.loads (c.certify.ensures.outside.0 e)
