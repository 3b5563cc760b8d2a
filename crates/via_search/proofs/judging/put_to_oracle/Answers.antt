use Rattle.std.proofs.Common.{ℕ, List, sym, subst}
use Rattle.road_model.specs.Graph.{Graph}
use Rattle.road_model.specs.Dist.{HaveSameDist}
use Rattle.road_model.specs.Walk.{IsWalkFrom}
use Rattle.road_model.specs.ViaWalk.{IsViaWalk}
use Rattle.via_search.specs.declared.judging.Tried.TheVariants as tried
use Rattle.via_search.specs.Candidates.{IsCandidate}
use Rattle.via_search.specs.Settings.{Givens}
use Rattle.via_search.specs.Judging.{FailsLocalOf, FailsStretchOf, IsTried}
use Rattle.via_search.specs.Asks.{AsksOnce}
use Rattle.via_search.proofs.ViaTrails.{trail_along, candidate_walk, few_sums, via_stands, is_via_walk, place_of_via, local_found, stretch_found, at_some, at_none}
use Rattle.via_search.proofs.AskedSums.{asked_local, asked_both}
use Rattle.via_search.proofs.judging.put_to_oracle.Goals as goal

pub of-requires-clause-walk : goal.of-requires-clause-walk
of-requires-clause-walk g c =
    let s = c.setting.inside in
    let candidate = subst (λ (x : Givens). IsCandidate x.graph x.query.from x.query.to c.args.candidate.now) (sym c.setting.view_is) c.requires.candidate in
    subst (λ (p : List ℕ). IsWalkFrom s.star.now s.query.now.from p) (sym c.as_slice.ensures)
    (candidate_walk s.star.now s.query.now.from s.query.now.to c.args.candidate.now candidate)

pub place_of-via_at-requires-clause-few : goal.place_of-via_at-requires-clause-few
place_of-via_at-requires-clause-few g c =
    let s = c.setting.inside in
    let candidate = subst (λ (x : Givens). IsCandidate x.graph x.query.from x.query.to c.args.candidate.now) (sym c.setting.view_is) c.requires.candidate in
    let is = trail_along s.star.now s.query.now.from c.in_ok-trail.trail c.as_slice.result.now c.args.candidate.now.arcs c.in_ok-trail.ensures c.as_slice.ensures in
    few_sums s.star.now s.query.now s.optimum.now c.args.candidate.now c.in_ok-trail.trail c.setting.invariant.posed candidate is

pub place_of-via_at-requires-clause-has : goal.place_of-via_at-requires-clause-has
place_of-via_at-requires-clause-has g c =
    let s = c.setting.inside in
    let candidate = subst (λ (x : Givens). IsCandidate x.graph x.query.from x.query.to c.args.candidate.now) (sym c.setting.view_is) c.requires.candidate in
    let is = trail_along s.star.now s.query.now.from c.in_ok-trail.trail c.as_slice.result.now c.args.candidate.now.arcs c.in_ok-trail.ensures c.as_slice.ensures in
    via_stands s.star.now s.query.now.from s.query.now.to c.args.candidate.now c.in_ok-trail.trail candidate is

pub local-requires : goal.local-requires
local-requires g c =
    let s = c.setting.inside in
    let same = subst (λ (x : Givens). HaveSameDist x.graph (g.O.Oracle.graph c.args.oracle.now)) (sym c.setting.view_is) c.requires.same in
    let candidate = subst (λ (x : Givens). IsCandidate x.graph x.query.from x.query.to c.args.candidate.now) (sym c.setting.view_is) c.requires.candidate in
    let is = trail_along s.star.now s.query.now.from c.in_ok-trail.trail c.as_slice.result.now c.args.candidate.now.arcs c.in_ok-trail.ensures c.as_slice.ensures in
    is_via_walk s.star.now (g.O.Oracle.graph c.args.oracle.now) s.query.now s.optimum.now c.args.candidate.now c.in_ok-trail.trail c.place_of-via_at.result
    c.setting.invariant.posed same candidate is c.place_of-via_at.ensures.inside c.place_of-via_at.ensures.is

pub stretch-requires : goal.stretch-requires
stretch-requires g c =
    let s = c.setting.inside in
    let same = subst (λ (x : Givens). HaveSameDist x.graph (g.O.Oracle.graph c.args.oracle.now)) (sym c.setting.view_is) c.requires.same in
    let candidate = subst (λ (x : Givens). IsCandidate x.graph x.query.from x.query.to c.args.candidate.now) (sym c.setting.view_is) c.requires.candidate in
    let is = trail_along s.star.now s.query.now.from c.in_ok-trail.trail c.as_slice.result.now c.args.candidate.now.arcs c.in_ok-trail.ensures c.as_slice.ensures in
    subst (λ (o : Graph). IsViaWalk o c.in_ok-trail.trail c.place_of-via_at.result) (sym c.local.ensures.same)
    (is_via_walk s.star.now (g.O.Oracle.graph c.args.oracle.now) s.query.now s.optimum.now c.args.candidate.now c.in_ok-trail.trail c.place_of-via_at.result
    c.setting.invariant.posed same candidate is c.place_of-via_at.ensures.inside c.place_of-via_at.ensures.is)

pub returns-in-Some-clause-tried : goal.returns-in-Some-clause-tried
returns-in-Some-clause-tried g c =
    let s = c.setting.inside in
    let same = subst (λ (x : Givens). HaveSameDist x.graph (g.O.Oracle.graph c.args.oracle.now)) (sym c.setting.view_is) c.requires.same in
    let net = s.star.now in
    let q = s.query.now in
    let o = s.optimum.now in
    let x = c.args.candidate.now in
    let is = trail_along s.star.now s.query.now.from c.in_ok-trail.trail c.as_slice.result.now c.args.candidate.now.arcs c.in_ok-trail.ensures c.as_slice.ensures in
    let found = local_found net (g.O.Oracle.graph c.args.oracle.now) q.alpha o.length _ c.in_ok-trail.trail _ c.in_ok-pair.field-0 same c.setting.invariant.posed.best.1 is c.in_ok-pair.ensures.found in
    subst (λ (y : Givens). IsTried y.graph y.query y.optimum.arcs c.args.candidate.now.arcs (tried.Local c.in-Some.pair)) c.setting.view_is
    (at_some (FailsLocalOf net q o.arcs x.arcs) c.in_ok-pair.field-0 c.in-Some.pair found c.in-Some.is)

pub returns-in-Some-2-clause-tried : goal.returns-in-Some-2-clause-tried
returns-in-Some-2-clause-tried g c =
    let s = c.setting.inside in
    let same = subst (λ (x : Givens). HaveSameDist x.graph (g.O.Oracle.graph c.args.oracle.now)) (sym c.setting.view_is) c.requires.same in
    let net = s.star.now in
    let q = s.query.now in
    let o = s.optimum.now in
    let x = c.args.candidate.now in
    let own = g.O.Oracle.graph c.args.oracle.now in
    let is = trail_along s.star.now s.query.now.from c.in_ok-trail.trail c.as_slice.result.now c.args.candidate.now.arcs c.in_ok-trail.ensures c.as_slice.ensures in
    let passed = local_found net own q.alpha o.length _ c.in_ok-trail.trail _ c.in_ok-pair.field-0 same c.setting.invariant.posed.best.1 is c.in_ok-pair.ensures.found in
    let found = stretch_found net own (g.O.Oracle.graph c.local.new.oracle) q.epsilon c.in_ok-trail.trail _ c.in_ok-pair-2.field-0 same c.local.ensures.same is c.in_ok-pair-2.ensures.found in
    subst (λ (y : Givens). IsTried y.graph y.query y.optimum.arcs c.args.candidate.now.arcs (tried.Stretch c.in-Some-2.pair)) c.setting.view_is
    (at_none (FailsLocalOf net q o.arcs x.arcs) c.in_ok-pair.field-0 passed c.in_default.is, at_some (FailsStretchOf net q x.arcs) c.in_ok-pair-2.field-0 c.in-Some-2.pair found c.in-Some-2.is)

pub returns-clause-tried : goal.returns-clause-tried
returns-clause-tried g c =
    let s = c.setting.inside in
    let same = subst (λ (x : Givens). HaveSameDist x.graph (g.O.Oracle.graph c.args.oracle.now)) (sym c.setting.view_is) c.requires.same in
    let net = s.star.now in
    let q = s.query.now in
    let o = s.optimum.now in
    let x = c.args.candidate.now in
    let own = g.O.Oracle.graph c.args.oracle.now in
    let is = trail_along s.star.now s.query.now.from c.in_ok-trail.trail c.as_slice.result.now c.args.candidate.now.arcs c.in_ok-trail.ensures c.as_slice.ensures in
    let passed = local_found net own q.alpha o.length _ c.in_ok-trail.trail _ c.in_ok-pair.field-0 same c.setting.invariant.posed.best.1 is c.in_ok-pair.ensures.found in
    let bounded = stretch_found net own (g.O.Oracle.graph c.local.new.oracle) q.epsilon c.in_ok-trail.trail _ c.in_ok-pair-2.field-0 same c.local.ensures.same is c.in_ok-pair-2.ensures.found in
    subst (λ (y : Givens). IsTried y.graph y.query y.optimum.arcs c.args.candidate.now.arcs tried.Passed) c.setting.view_is
    (at_none (FailsLocalOf net q o.arcs x.arcs) c.in_ok-pair.field-0 passed c.in_default.is, at_none (FailsStretchOf net q x.arcs) c.in_ok-pair-2.field-0 bounded c.in_default-2.is)

pub returns-in_err-pair-clause-asks : goal.returns-in_err-pair-clause-asks
returns-in_err-pair-clause-asks g c =
    let s = c.setting.inside in
    let candidate = subst (λ (x : Givens). IsCandidate x.graph x.query.from x.query.to c.args.candidate.now) (sym c.setting.view_is) c.requires.candidate in
    let is = trail_along s.star.now s.query.now.from c.in_ok-trail.trail c.as_slice.result.now c.args.candidate.now.arcs c.in_ok-trail.ensures c.as_slice.ensures in
    let place = place_of_via s.star.now s.query.now s.optimum.now c.args.candidate.now c.in_ok-trail.trail c.place_of-via_at.result c.setting.invariant.posed candidate is c.place_of-via_at.ensures.inside c.place_of-via_at.ensures.is in
    subst (λ (y : Givens). AsksOnce y.graph y.query.from y.query.to c.args.candidate.now.arcs c.args.candidate.now.via (g.O.Oracle.asked c.args.oracle.now) (g.O.Oracle.asked c.local.new.oracle)) c.setting.view_is
    (asked_local s.star.now s.query.now.from s.query.now.to c.args.candidate.now.arcs c.args.candidate.now.via c.place_of-via_at.result (g.O.Oracle.asked c.args.oracle.now) (g.O.Oracle.asked c.local.new.oracle) c.in_ok-trail.trail is place c.local.ensures.asks)

pub returns-in-Some-clause-asks : goal.returns-in-Some-clause-asks
returns-in-Some-clause-asks g c =
    let s = c.setting.inside in
    let candidate = subst (λ (x : Givens). IsCandidate x.graph x.query.from x.query.to c.args.candidate.now) (sym c.setting.view_is) c.requires.candidate in
    let is = trail_along s.star.now s.query.now.from c.in_ok-trail.trail c.as_slice.result.now c.args.candidate.now.arcs c.in_ok-trail.ensures c.as_slice.ensures in
    let place = place_of_via s.star.now s.query.now s.optimum.now c.args.candidate.now c.in_ok-trail.trail c.place_of-via_at.result c.setting.invariant.posed candidate is c.place_of-via_at.ensures.inside c.place_of-via_at.ensures.is in
    subst (λ (y : Givens). AsksOnce y.graph y.query.from y.query.to c.args.candidate.now.arcs c.args.candidate.now.via (g.O.Oracle.asked c.args.oracle.now) (g.O.Oracle.asked c.local.new.oracle)) c.setting.view_is
    (asked_local s.star.now s.query.now.from s.query.now.to c.args.candidate.now.arcs c.args.candidate.now.via c.place_of-via_at.result (g.O.Oracle.asked c.args.oracle.now) (g.O.Oracle.asked c.local.new.oracle) c.in_ok-trail.trail is place c.local.ensures.asks)

pub returns-in_err-pair-2-clause-asks : goal.returns-in_err-pair-2-clause-asks
returns-in_err-pair-2-clause-asks g c =
    let s = c.setting.inside in
    let candidate = subst (λ (x : Givens). IsCandidate x.graph x.query.from x.query.to c.args.candidate.now) (sym c.setting.view_is) c.requires.candidate in
    let is = trail_along s.star.now s.query.now.from c.in_ok-trail.trail c.as_slice.result.now c.args.candidate.now.arcs c.in_ok-trail.ensures c.as_slice.ensures in
    let place = place_of_via s.star.now s.query.now s.optimum.now c.args.candidate.now c.in_ok-trail.trail c.place_of-via_at.result c.setting.invariant.posed candidate is c.place_of-via_at.ensures.inside c.place_of-via_at.ensures.is in
    subst (λ (y : Givens). AsksOnce y.graph y.query.from y.query.to c.args.candidate.now.arcs c.args.candidate.now.via (g.O.Oracle.asked c.args.oracle.now) (g.O.Oracle.asked c.stretch.new.oracle)) c.setting.view_is
    (asked_both s.star.now s.query.now.from s.query.now.to c.args.candidate.now.arcs c.args.candidate.now.via c.place_of-via_at.result (g.O.Oracle.asked c.args.oracle.now) (g.O.Oracle.asked c.local.new.oracle) (g.O.Oracle.asked c.stretch.new.oracle) c.in_ok-trail.trail is place c.local.ensures.asks c.stretch.ensures.asks)

pub returns-in-Some-2-clause-asks : goal.returns-in-Some-2-clause-asks
returns-in-Some-2-clause-asks g c =
    let s = c.setting.inside in
    let candidate = subst (λ (x : Givens). IsCandidate x.graph x.query.from x.query.to c.args.candidate.now) (sym c.setting.view_is) c.requires.candidate in
    let is = trail_along s.star.now s.query.now.from c.in_ok-trail.trail c.as_slice.result.now c.args.candidate.now.arcs c.in_ok-trail.ensures c.as_slice.ensures in
    let place = place_of_via s.star.now s.query.now s.optimum.now c.args.candidate.now c.in_ok-trail.trail c.place_of-via_at.result c.setting.invariant.posed candidate is c.place_of-via_at.ensures.inside c.place_of-via_at.ensures.is in
    subst (λ (y : Givens). AsksOnce y.graph y.query.from y.query.to c.args.candidate.now.arcs c.args.candidate.now.via (g.O.Oracle.asked c.args.oracle.now) (g.O.Oracle.asked c.stretch.new.oracle)) c.setting.view_is
    (asked_both s.star.now s.query.now.from s.query.now.to c.args.candidate.now.arcs c.args.candidate.now.via c.place_of-via_at.result (g.O.Oracle.asked c.args.oracle.now) (g.O.Oracle.asked c.local.new.oracle) (g.O.Oracle.asked c.stretch.new.oracle) c.in_ok-trail.trail is place c.local.ensures.asks c.stretch.ensures.asks)

pub returns-clause-asks : goal.returns-clause-asks
returns-clause-asks g c =
    let s = c.setting.inside in
    let candidate = subst (λ (x : Givens). IsCandidate x.graph x.query.from x.query.to c.args.candidate.now) (sym c.setting.view_is) c.requires.candidate in
    let is = trail_along s.star.now s.query.now.from c.in_ok-trail.trail c.as_slice.result.now c.args.candidate.now.arcs c.in_ok-trail.ensures c.as_slice.ensures in
    let place = place_of_via s.star.now s.query.now s.optimum.now c.args.candidate.now c.in_ok-trail.trail c.place_of-via_at.result c.setting.invariant.posed candidate is c.place_of-via_at.ensures.inside c.place_of-via_at.ensures.is in
    subst (λ (y : Givens). AsksOnce y.graph y.query.from y.query.to c.args.candidate.now.arcs c.args.candidate.now.via (g.O.Oracle.asked c.args.oracle.now) (g.O.Oracle.asked c.stretch.new.oracle)) c.setting.view_is
    (asked_both s.star.now s.query.now.from s.query.now.to c.args.candidate.now.arcs c.args.candidate.now.via c.place_of-via_at.result (g.O.Oracle.asked c.args.oracle.now) (g.O.Oracle.asked c.local.new.oracle) (g.O.Oracle.asked c.stretch.new.oracle) c.in_ok-trail.trail is place c.local.ensures.asks c.stretch.ensures.asks)
