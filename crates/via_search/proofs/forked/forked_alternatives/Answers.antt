use Rattle.std.proofs.Common.{sym, subst}
use Rattle.std.specs.List.{sum_by}
use Rattle.via_search.specs.Candidates.{IsBoundOf}
use Rattle.via_search.specs.Settings.{Givens}
use Rattle.via_search.specs.Asks.{AsksAtMost}
use Rattle.via_search.specs.Forking.{HaveAllSameDist}
use Rattle.via_search.proofs.AskedSums.{asks_for_plan}
use Rattle.via_search.proofs.ForkedTests.{stay_same}
use Rattle.via_search.proofs.forked.forked_alternatives.Goals as goal

pub returns-in_err-pair-clause-counted : goal.returns-in_err-pair-clause-counted
returns-in_err-pair-clause-counted g c =
    stay_same (λ o. g.O.Oracle.asked o) c.args.oracles.now

pub returns-in_err-plateaus-clause-counted : goal.returns-in_err-plateaus-clause-counted
returns-in_err-plateaus-clause-counted g c =
    stay_same (λ o. g.O.Oracle.asked o) c.args.oracles.now

pub forked_routes-requires-clause-same : goal.forked_routes-requires-clause-same
forked_routes-requires-clause-same g c κs bounds =
    subst (λ (y : Givens). HaveAllSameDist (λ o. g.O.Oracle.graph o) y.graph c.args.oracles.now) (sym c.of-setting.ensures) c.requires.same

pub forked_routes-requires-clause-bound : goal.forked_routes-requires-clause-bound
forked_routes-requires-clause-bound g c κs bounds =
    subst (λ (y : Givens). IsBoundOf y.query y.optimum.length y.reach) (sym c.of-setting.ensures)
    (record { within = c.bound-bound.ensures.within; greatest = c.bound-bound.ensures.greatest })

pub returns-in_err-routes-clause-asks : goal.returns-in_err-routes-clause-asks
returns-in_err-routes-clause-asks g c =
    let old = sum_by (λ o. g.O.Oracle.asked o) c.args.oracles.now in
    let new = sum_by (λ o. g.O.Oracle.asked o) c.forked_routes.new.oracles in
    asks_for_plan c.args.star.now c.args.query.now c.args.optimum.now c.bound-bound.result old new c.requires.posed
    (record { within = c.bound-bound.ensures.within; greatest = c.bound-bound.ensures.greatest })
    (subst (λ (y : Givens). AsksAtMost y.graph y.query.from y.query.to y.reach y.optimum.arcs old new) c.of-setting.ensures c.forked_routes.ensures.asks)

pub returns-clause-asks : goal.returns-clause-asks
returns-clause-asks g c =
    let old = sum_by (λ o. g.O.Oracle.asked o) c.args.oracles.now in
    let new = sum_by (λ o. g.O.Oracle.asked o) c.forked_routes.new.oracles in
    asks_for_plan c.args.star.now c.args.query.now c.args.optimum.now c.bound-bound.result old new c.requires.posed
    (record { within = c.bound-bound.ensures.within; greatest = c.bound-bound.ensures.greatest })
    (subst (λ (y : Givens). AsksAtMost y.graph y.query.from y.query.to y.reach y.optimum.arcs old new) c.of-setting.ensures c.forked_routes.ensures.asks)
