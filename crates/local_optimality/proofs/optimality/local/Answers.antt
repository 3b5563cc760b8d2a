use Rattle.std.proofs.Common.{sym, subst}
use Rattle.road_model.specs.Graph.{Graph}
use Rattle.path_tests.specs.JoinedTrail.{IsJoinedTrail}
use Rattle.path_tests.proofs.JoinedTrails.{IsJoinedTrail-from_via_walk}
use Rattle.local_optimality.specs.Detour.{IsDetour}
use Rattle.local_optimality.proofs.Halvings.{failing_in, least_failing, asks_of_local, asks_of_start, asks_before_in}
use Rattle.local_optimality.proofs.optimality.local.Goals as goal

pub failing_start-requires : goal.failing_start-requires
failing_start-requires g c = IsJoinedTrail-from_via_walk _ _ _ c.requires

pub returns-in_err-failing-clause-asks : goal.returns-in_err-failing-clause-asks
returns-in_err-failing-clause-asks g c =
    asks_of_start _ c.args.trail.now c.args.via_at _ _ (IsJoinedTrail-from_via_walk _ _ _ c.requires) c.in_err-failing.ensures.asks

pub returns-in_default-clause-asks : goal.returns-in_default-clause-asks
returns-in_default-clause-asks g c =
    asks_of_start _ c.args.trail.now c.args.via_at _ _ (IsJoinedTrail-from_via_walk _ _ _ c.requires) c.in_ok-failing.ensures.asks

pub least_end-requires : goal.least_end-requires
least_end-requires g c =
    let old = g.O.Oracle.graph c.args.oracle.now in
    let joined : IsJoinedTrail old c.args.trail.now c.args.via_at = IsJoinedTrail-from_via_walk old c.args.trail.now c.args.via_at c.requires in
    let failing = failing_in old c.args.alpha.now c.args.opt_len c.args.trail.now c.args.via_at c.in_ok-failing.field-0 c.in-Some.failing c.in_ok-failing.ensures.found c.in-Some.is in
    record {
      joined = subst (λ (x : Graph). IsJoinedTrail x c.args.trail.now c.args.via_at) (sym c.failing_start.ensures.same) joined;
      before = failing.before;
      beyond = failing.beyond;
      inside = failing.inside;
      detour = subst (λ (x : Graph). IsDetour x c.args.trail.now c.in-Some.failing.first c.in-Some.failing.last c.in-Some.failing.distance) (sym c.failing_start.ensures.same) failing.detour;
    }

pub returns-in_err-pair-clause-asks : goal.returns-in_err-pair-clause-asks
returns-in_err-pair-clause-asks g c =
    let old = g.O.Oracle.graph c.args.oracle.now in
    let failing = failing_in old c.args.alpha.now c.args.opt_len c.args.trail.now c.args.via_at c.in_ok-failing.field-0 c.in-Some.failing c.in_ok-failing.ensures.found c.in-Some.is in
    asks_of_local old c.args.alpha.now c.args.opt_len c.args.trail.now c.args.via_at _ _ _ c.in-Some.failing failing
    (asks_before_in _ _ c.in_ok-failing.field-0 c.in-Some.failing c.in_ok-failing.ensures.asks_before c.in-Some.is) c.least_end.ensures.asks

pub returns-clause-asks : goal.returns-clause-asks
returns-clause-asks g c =
    let old = g.O.Oracle.graph c.args.oracle.now in
    let failing = failing_in old c.args.alpha.now c.args.opt_len c.args.trail.now c.args.via_at c.in_ok-failing.field-0 c.in-Some.failing c.in_ok-failing.ensures.found c.in-Some.is in
    asks_of_local old c.args.alpha.now c.args.opt_len c.args.trail.now c.args.via_at _ _ _ c.in-Some.failing failing
    (asks_before_in _ _ c.in_ok-failing.field-0 c.in-Some.failing c.in_ok-failing.ensures.asks_before c.in-Some.is) c.least_end.ensures.asks

pub returns-clause-found : goal.returns-clause-found
returns-clause-found g c =
    let old = g.O.Oracle.graph c.args.oracle.now in
    let joined : IsJoinedTrail old c.args.trail.now c.args.via_at = IsJoinedTrail-from_via_walk old c.args.trail.now c.args.via_at c.requires in
    let failing = failing_in old c.args.alpha.now c.args.opt_len c.args.trail.now c.args.via_at c.in_ok-failing.field-0 c.in-Some.failing c.in_ok-failing.ensures.found c.in-Some.is in
    least_failing old _ c.args.alpha.now c.args.opt_len c.args.trail.now c.args.via_at c.in-Some.failing c.in_ok-pair.pair c.failing_start.ensures.same joined failing c.in_ok-pair.ensures.found
