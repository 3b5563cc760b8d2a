use Rattle.std.proofs.Common.{◌-◌, ◌/◌, ℕ, arith}
use Rattle.local_optimality.specs.Detour.{IsDetour}
use Rattle.local_optimality.proofs.ClearSubpaths.{local_none}
use Rattle.local_optimality.proofs.Halvings.{OnRounds-start, OnRounds-cleared, OnRounds-halved, detour_beyond, IsDetour-told, last_of_one}
use Rattle.local_optimality.proofs.optimality.failing_start.Goals as goal

pub rounds-init : goal.rounds-init
rounds-init g c =
    OnRounds-start (g.O.Oracle.graph c.args.oracle.now) c.args.alpha.now c.args.opt_len c.args.trail.now (g.O.Oracle.asked c.args.oracle.now) c.args.via_at c.first_round-first.result c.requires c.first_round-first.ensures.within c.first_round-first.ensures.untested

pub rounds-preserved-in-None : goal.rounds-preserved-in-None
rounds-preserved-in-None g c =
    OnRounds-cleared (g.O.Oracle.graph c.args.oracle.now) (g.O.Oracle.graph c.rounds.oracle) (g.O.Oracle.graph c.detour_to.new.oracle) c.args.alpha.now c.args.opt_len c.args.trail.now (g.O.Oracle.asked c.args.oracle.now) (g.O.Oracle.asked c.rounds.oracle) (g.O.Oracle.asked c.detour_to.new.oracle) c.args.via_at c.rounds.first c.rounds.width c.end_of-end.result c.last_tested-last.result c.doubled-width.result c.in_ok-detour_to.field-0 c.requires c.rounds.invariant c.detour_to.ensures.same c.detour_to.ensures.asks c.in_ok-detour_to.ensures.found c.in-None.is c.end_of-end.ensures.onward c.end_of-end.ensures.within c.last_tested-last.ensures.onward c.last_tested-last.ensures.inside c.last_tested-last.ensures.last c.doubled-width.ensures.some c.doubled-width.ensures.double

pub rounds-preserved : goal.rounds-preserved
rounds-preserved g c =
    OnRounds-halved (g.O.Oracle.graph c.args.oracle.now) (g.O.Oracle.graph c.rounds.oracle) (g.O.Oracle.graph c.detour_to.new.oracle) c.args.alpha.now c.args.opt_len c.args.trail.now (g.O.Oracle.asked c.args.oracle.now) (g.O.Oracle.asked c.rounds.oracle) (g.O.Oracle.asked c.detour_to.new.oracle) c.args.via_at c.rounds.first c.rounds.width ((c.end_of-end.result - c.rounds.first) / 2) c.rounds.invariant c.detour_to.ensures.same c.detour_to.ensures.asks
    (omega (arith, c.if-end-first-eq1.false, c.end_of-end.ensures.onward)) (omega (arith, c.if-end-first-eq1.false, c.end_of-end.ensures.onward, c.end_of-end.ensures.narrow))

pub returns-then-end-first-eq1-clause-found : goal.returns-then-end-first-eq1-clause-found
returns-then-end-first-eq1-clause-found g c =
    let old = g.O.Oracle.graph c.args.oracle.now in
    let first : ℕ = c.rounds.first in
    let last : ℕ = c.last_tested-last.result in
    let onward = c.last_tested-last.ensures.onward in
    let before = c.rounds-test.true in
    let detour : IsDetour old c.args.trail.now first last c.in-Some.distance = IsDetour-told old (g.O.Oracle.graph c.rounds.oracle) c.args.trail.now first last c.in-Some.distance c.in_ok-detour_to.field-0 c.rounds.invariant.same c.in_ok-detour_to.ensures.found c.in-Some.is in
    record {
      before = before;
      beyond = detour_beyond old c.args.trail.now c.args.via_at first last c.in-Some.distance c.requires before (omega arith) detour;
      inside = c.last_tested-last.ensures.inside;
      below = c.rounds.invariant.passed;
      tested = last_of_one c.args.alpha.now c.args.opt_len c.args.trail.now c.args.via_at first c.end_of-end.result last c.if-end-first-eq1.true c.end_of-end.ensures.onward c.last_tested-last.ensures.tested;
      detour = detour;
    }

pub returns-clause-found : goal.returns-clause-found
returns-clause-found g c =
    local_none (g.O.Oracle.graph c.args.oracle.now) c.args.alpha.now c.args.opt_len c.args.trail.now c.args.via_at c.rounds.first c.requires c.rounds-test.false c.rounds.invariant.passed
