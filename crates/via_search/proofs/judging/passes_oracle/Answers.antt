use Rattle.std.proofs.Common.{ℕ, List, false, sym, subst}
use Rattle.road_model.specs.Graph.{Graph}
use Rattle.road_model.specs.Dist.{HaveSameDist}
use Rattle.road_model.specs.Walk.{IsWalkFrom}
use Rattle.road_model.specs.ViaWalk.{IsViaWalk}
use Rattle.via_search.specs.Candidates.{IsCandidate}
use Rattle.via_search.specs.Settings.{Givens}
use Rattle.via_search.specs.Judging.{FailsLocalOf, IsPassing}
use Rattle.via_search.specs.Asks.{AsksOnce}
use Rattle.via_search.proofs.ViaTrails.{trail_along, candidate_walk, few_sums, via_stands, is_via_walk, place_of_via, local_passes, stretch_passes, at_true, at_false, not_local, passing_of}
use Rattle.via_search.proofs.AskedSums.{asked_local, asked_both}
use Rattle.via_search.proofs.judging.passes_oracle.Goals as goal

pub of-requires-clause-walk : goal.of-requires-clause-walk
of-requires-clause-walk g c =
    let s = c.setting.inside in
    let candidate = subst (λ (x : Givens). IsCandidate x.graph x.query.from x.query.to c.args.candidate.now) (sym c.setting.view_is) c.requires.candidate in
    subst (λ (p : List ℕ). IsWalkFrom s.star.now s.query.now.from p) (sym c.as_slice.ensures)
    (candidate_walk s.star.now s.query.now.from s.query.now.to c.args.candidate.now candidate)

pub place_of-via_at-requires-clause-few : goal.place_of-via_at-requires-clause-few
place_of-via_at-requires-clause-few g c =
    let s = c.setting.inside in
    let candidate = subst (λ (x : Givens). IsCandidate x.graph x.query.from x.query.to c.args.candidate.now) (sym c.setting.view_is) c.requires.candidate in
    let is = trail_along s.star.now s.query.now.from c.in_ok-trail.trail c.as_slice.result.now c.args.candidate.now.arcs c.in_ok-trail.ensures c.as_slice.ensures in
    few_sums s.star.now s.query.now s.optimum.now c.args.candidate.now c.in_ok-trail.trail c.setting.invariant.posed candidate is

pub place_of-via_at-requires-clause-has : goal.place_of-via_at-requires-clause-has
place_of-via_at-requires-clause-has g c =
    let s = c.setting.inside in
    let candidate = subst (λ (x : Givens). IsCandidate x.graph x.query.from x.query.to c.args.candidate.now) (sym c.setting.view_is) c.requires.candidate in
    let is = trail_along s.star.now s.query.now.from c.in_ok-trail.trail c.as_slice.result.now c.args.candidate.now.arcs c.in_ok-trail.ensures c.as_slice.ensures in
    via_stands s.star.now s.query.now.from s.query.now.to c.args.candidate.now c.in_ok-trail.trail candidate is

pub is_local-requires : goal.is_local-requires
is_local-requires g c =
    let s = c.setting.inside in
    let same = subst (λ (x : Givens). HaveSameDist x.graph (g.O.Oracle.graph c.args.oracle.now)) (sym c.setting.view_is) c.requires.same in
    let candidate = subst (λ (x : Givens). IsCandidate x.graph x.query.from x.query.to c.args.candidate.now) (sym c.setting.view_is) c.requires.candidate in
    let is = trail_along s.star.now s.query.now.from c.in_ok-trail.trail c.as_slice.result.now c.args.candidate.now.arcs c.in_ok-trail.ensures c.as_slice.ensures in
    is_via_walk s.star.now (g.O.Oracle.graph c.args.oracle.now) s.query.now s.optimum.now c.args.candidate.now c.in_ok-trail.trail c.place_of-via_at.result
    c.setting.invariant.posed same candidate is c.place_of-via_at.ensures.inside c.place_of-via_at.ensures.is

pub is_stretch_bounded-requires : goal.is_stretch_bounded-requires
is_stretch_bounded-requires g c =
    let s = c.setting.inside in
    let same = subst (λ (x : Givens). HaveSameDist x.graph (g.O.Oracle.graph c.args.oracle.now)) (sym c.setting.view_is) c.requires.same in
    let candidate = subst (λ (x : Givens). IsCandidate x.graph x.query.from x.query.to c.args.candidate.now) (sym c.setting.view_is) c.requires.candidate in
    let is = trail_along s.star.now s.query.now.from c.in_ok-trail.trail c.as_slice.result.now c.args.candidate.now.arcs c.in_ok-trail.ensures c.as_slice.ensures in
    subst (λ (o : Graph). IsViaWalk o c.in_ok-trail.trail c.place_of-via_at.result) (sym c.is_local.ensures.same)
    (is_via_walk s.star.now (g.O.Oracle.graph c.args.oracle.now) s.query.now s.optimum.now c.args.candidate.now c.in_ok-trail.trail c.place_of-via_at.result
    c.setting.invariant.posed same candidate is c.place_of-via_at.ensures.inside c.place_of-via_at.ensures.is)

pub returns-then-not-optimal-clause-passing : goal.returns-then-not-optimal-clause-passing
returns-then-not-optimal-clause-passing g c =
    let s = c.setting.inside in
    let same = subst (λ (x : Givens). HaveSameDist x.graph (g.O.Oracle.graph c.args.oracle.now)) (sym c.setting.view_is) c.requires.same in
    let net = s.star.now in
    let q = s.query.now in
    let o = s.optimum.now in
    let x = c.args.candidate.now in
    let is = trail_along s.star.now s.query.now.from c.in_ok-trail.trail c.as_slice.result.now c.args.candidate.now.arcs c.in_ok-trail.ensures c.as_slice.ensures in
    let found = local_passes net (g.O.Oracle.graph c.args.oracle.now) q.alpha o.length _ c.in_ok-trail.trail _ c.in_ok-optimal.optimal same c.setting.invariant.posed.best.1 is c.in_ok-optimal.ensures.passes in
    subst (λ (y : Givens). IsPassing y.graph y.query y.optimum.arcs c.args.candidate.now.arcs false) c.setting.view_is
    (not_local net q o.arcs x.arcs (at_false (FailsLocalOf net q o.arcs x.arcs) c.in_ok-optimal.optimal found c.if-not-optimal.true))

pub returns-clause-passing : goal.returns-clause-passing
returns-clause-passing g c =
    let s = c.setting.inside in
    let same = subst (λ (x : Givens). HaveSameDist x.graph (g.O.Oracle.graph c.args.oracle.now)) (sym c.setting.view_is) c.requires.same in
    let net = s.star.now in
    let q = s.query.now in
    let o = s.optimum.now in
    let x = c.args.candidate.now in
    let own = g.O.Oracle.graph c.args.oracle.now in
    let is = trail_along s.star.now s.query.now.from c.in_ok-trail.trail c.as_slice.result.now c.args.candidate.now.arcs c.in_ok-trail.ensures c.as_slice.ensures in
    let found = local_passes net own q.alpha o.length _ c.in_ok-trail.trail _ c.in_ok-optimal.optimal same c.setting.invariant.posed.best.1 is c.in_ok-optimal.ensures.passes in
    let optimal = at_true (FailsLocalOf net q o.arcs x.arcs) c.in_ok-optimal.optimal found c.if-not-optimal.false in
    let bounded = stretch_passes net own (g.O.Oracle.graph c.is_local.new.oracle) q.epsilon c.in_ok-trail.trail _ c.in_ok-bounded.bounded same c.is_local.ensures.same is c.in_ok-bounded.ensures.passes in
    subst (λ (y : Givens). IsPassing y.graph y.query y.optimum.arcs c.args.candidate.now.arcs c.in_ok-bounded.bounded) c.setting.view_is
    (passing_of net q o.arcs x.arcs c.in_ok-bounded.bounded optimal bounded)

pub returns-in_err-optimal-clause-asks : goal.returns-in_err-optimal-clause-asks
returns-in_err-optimal-clause-asks g c =
    let s = c.setting.inside in
    let candidate = subst (λ (x : Givens). IsCandidate x.graph x.query.from x.query.to c.args.candidate.now) (sym c.setting.view_is) c.requires.candidate in
    let is = trail_along s.star.now s.query.now.from c.in_ok-trail.trail c.as_slice.result.now c.args.candidate.now.arcs c.in_ok-trail.ensures c.as_slice.ensures in
    let place = place_of_via s.star.now s.query.now s.optimum.now c.args.candidate.now c.in_ok-trail.trail c.place_of-via_at.result c.setting.invariant.posed candidate is c.place_of-via_at.ensures.inside c.place_of-via_at.ensures.is in
    subst (λ (y : Givens). AsksOnce y.graph y.query.from y.query.to c.args.candidate.now.arcs c.args.candidate.now.via (g.O.Oracle.asked c.args.oracle.now) (g.O.Oracle.asked c.is_local.new.oracle)) c.setting.view_is
    (asked_local s.star.now s.query.now.from s.query.now.to c.args.candidate.now.arcs c.args.candidate.now.via c.place_of-via_at.result (g.O.Oracle.asked c.args.oracle.now) (g.O.Oracle.asked c.is_local.new.oracle) c.in_ok-trail.trail is place c.is_local.ensures.asks)

pub returns-then-not-optimal-clause-asks : goal.returns-then-not-optimal-clause-asks
returns-then-not-optimal-clause-asks g c =
    let s = c.setting.inside in
    let candidate = subst (λ (x : Givens). IsCandidate x.graph x.query.from x.query.to c.args.candidate.now) (sym c.setting.view_is) c.requires.candidate in
    let is = trail_along s.star.now s.query.now.from c.in_ok-trail.trail c.as_slice.result.now c.args.candidate.now.arcs c.in_ok-trail.ensures c.as_slice.ensures in
    let place = place_of_via s.star.now s.query.now s.optimum.now c.args.candidate.now c.in_ok-trail.trail c.place_of-via_at.result c.setting.invariant.posed candidate is c.place_of-via_at.ensures.inside c.place_of-via_at.ensures.is in
    subst (λ (y : Givens). AsksOnce y.graph y.query.from y.query.to c.args.candidate.now.arcs c.args.candidate.now.via (g.O.Oracle.asked c.args.oracle.now) (g.O.Oracle.asked c.is_local.new.oracle)) c.setting.view_is
    (asked_local s.star.now s.query.now.from s.query.now.to c.args.candidate.now.arcs c.args.candidate.now.via c.place_of-via_at.result (g.O.Oracle.asked c.args.oracle.now) (g.O.Oracle.asked c.is_local.new.oracle) c.in_ok-trail.trail is place c.is_local.ensures.asks)

pub returns-in_err-bounded-clause-asks : goal.returns-in_err-bounded-clause-asks
returns-in_err-bounded-clause-asks g c =
    let s = c.setting.inside in
    let candidate = subst (λ (x : Givens). IsCandidate x.graph x.query.from x.query.to c.args.candidate.now) (sym c.setting.view_is) c.requires.candidate in
    let is = trail_along s.star.now s.query.now.from c.in_ok-trail.trail c.as_slice.result.now c.args.candidate.now.arcs c.in_ok-trail.ensures c.as_slice.ensures in
    let place = place_of_via s.star.now s.query.now s.optimum.now c.args.candidate.now c.in_ok-trail.trail c.place_of-via_at.result c.setting.invariant.posed candidate is c.place_of-via_at.ensures.inside c.place_of-via_at.ensures.is in
    subst (λ (y : Givens). AsksOnce y.graph y.query.from y.query.to c.args.candidate.now.arcs c.args.candidate.now.via (g.O.Oracle.asked c.args.oracle.now) (g.O.Oracle.asked c.is_stretch_bounded.new.oracle)) c.setting.view_is
    (asked_both s.star.now s.query.now.from s.query.now.to c.args.candidate.now.arcs c.args.candidate.now.via c.place_of-via_at.result (g.O.Oracle.asked c.args.oracle.now) (g.O.Oracle.asked c.is_local.new.oracle) (g.O.Oracle.asked c.is_stretch_bounded.new.oracle) c.in_ok-trail.trail is place c.is_local.ensures.asks c.is_stretch_bounded.ensures.asks)

pub returns-clause-asks : goal.returns-clause-asks
returns-clause-asks g c =
    let s = c.setting.inside in
    let candidate = subst (λ (x : Givens). IsCandidate x.graph x.query.from x.query.to c.args.candidate.now) (sym c.setting.view_is) c.requires.candidate in
    let is = trail_along s.star.now s.query.now.from c.in_ok-trail.trail c.as_slice.result.now c.args.candidate.now.arcs c.in_ok-trail.ensures c.as_slice.ensures in
    let place = place_of_via s.star.now s.query.now s.optimum.now c.args.candidate.now c.in_ok-trail.trail c.place_of-via_at.result c.setting.invariant.posed candidate is c.place_of-via_at.ensures.inside c.place_of-via_at.ensures.is in
    subst (λ (y : Givens). AsksOnce y.graph y.query.from y.query.to c.args.candidate.now.arcs c.args.candidate.now.via (g.O.Oracle.asked c.args.oracle.now) (g.O.Oracle.asked c.is_stretch_bounded.new.oracle)) c.setting.view_is
    (asked_both s.star.now s.query.now.from s.query.now.to c.args.candidate.now.arcs c.args.candidate.now.via c.place_of-via_at.result (g.O.Oracle.asked c.args.oracle.now) (g.O.Oracle.asked c.is_local.new.oracle) (g.O.Oracle.asked c.is_stretch_bounded.new.oracle) c.in_ok-trail.trail is place c.is_local.ensures.asks c.is_stretch_bounded.ensures.asks)
