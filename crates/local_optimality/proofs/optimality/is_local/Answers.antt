use Rattle.path_tests.proofs.JoinedTrails.{IsJoinedTrail-from_via_walk}
use Rattle.local_optimality.proofs.Halvings.{failing_in, failing_fails, asks_of_start}
use Rattle.local_optimality.proofs.optimality.is_local.Goals as goal

pub failing_start-requires : goal.failing_start-requires
failing_start-requires g c = IsJoinedTrail-from_via_walk _ _ _ c.requires

pub returns-in_err-_failing-clause-asks : goal.returns-in_err-_failing-clause-asks
returns-in_err-_failing-clause-asks g c =
    asks_of_start _ c.args.trail.now c.args.via_at _ _ (IsJoinedTrail-from_via_walk _ _ _ c.requires) c.in_err-_failing.ensures.asks

pub returns-in_default-clause-asks : goal.returns-in_default-clause-asks
returns-in_default-clause-asks g c =
    asks_of_start _ c.args.trail.now c.args.via_at _ _ (IsJoinedTrail-from_via_walk _ _ _ c.requires) c.in_ok-_failing.ensures.asks

pub returns-clause-passes : goal.returns-clause-passes
returns-clause-passes g c =
    let old = g.O.Oracle.graph c.args.oracle.now in
    failing_fails old c.args.alpha.now c.args.opt_len c.args.trail.now c.args.via_at c.in-Some._failing
    (failing_in old c.args.alpha.now c.args.opt_len c.args.trail.now c.args.via_at c.in_ok-_failing.field-0 c.in-Some._failing c.in_ok-_failing.ensures.found c.in-Some.is)
