use Rattle.std.proofs.Common.{ℕ, List, ◌<◌, ◌^◌, arith, sym, subst}
use Rattle.road_model.specs.Graph.{Graph}
use Rattle.road_model.specs.Walk.{IsWalkFrom, walk_length}
use Rattle.road_model.specs.ViaWalk.{IsViaWalk}
use Rattle.certify.proofs.RouteStarts.{via_from, via_short, via_stands, trail_along}
use Rattle.certify.proofs.TestedPaths.{is_via_walk, place_fits, vertex_there, local_some, local_none, stretch_some, stretch_none, local_reason, stretch_reason, listed_reason}
use Rattle.certify.proofs.verdicts.tested_reason.Goals as goal

pub of-requires-clause-walk : goal.of-requires-clause-walk
of-requires-clause-walk g c =
    let net = c.args.ground.now.star.now in
    let q = c.args.ground.now.query.now in
    let best = c.args.ground.now.best.now in
    let p = c.args.arcs.now in
    let via = c.requires.named.through in
    subst (λ (l : List ℕ). IsWalkFrom net q.from l) (sym c.as_slice.ensures) (via_from net q.from q.to c.args.name p via)

pub of-requires-clause-short : goal.of-requires-clause-short
of-requires-clause-short g c =
    let net = c.args.ground.now.star.now in
    let q = c.args.ground.now.query.now in
    let best = c.args.ground.now.best.now in
    let p = c.args.arcs.now in
    let via = c.requires.named.through in
    subst (λ (l : List ℕ). walk_length net l < 2 ^ 58) (sym c.as_slice.ensures) (via_short net q.from q.to c.args.name p c.requires.posed.limits via)

pub place_of-via_at-requires : goal.place_of-via_at-requires
place_of-via_at-requires g c =
    let net = c.args.ground.now.star.now in
    let q = c.args.ground.now.query.now in
    let best = c.args.ground.now.best.now in
    let p = c.args.arcs.now in
    let via = c.requires.named.through in
    let t = c.in_ok-trail.trail in
    let is = trail_along net q.from t c.as_slice.result.now p c.in_ok-trail.ensures c.as_slice.ensures in
    via_stands net q.from q.to c.args.name p t via is

pub overflow_cast-via_at : goal.overflow_cast-via_at
overflow_cast-via_at g c =
    let net = c.args.ground.now.star.now in
    let q = c.args.ground.now.query.now in
    let best = c.args.ground.now.best.now in
    let p = c.args.arcs.now in
    let via = c.requires.named.through in
    let t = c.in_ok-trail.trail in
    let is = trail_along net q.from t c.as_slice.result.now p c.in_ok-trail.ensures c.as_slice.ensures in
    omega (arith, place_fits net q best c.args.name p t c.place_of-via_at.result c.requires.posed via is c.place_of-via_at.ensures.inside)

pub local-requires : goal.local-requires
local-requires g c =
    let net = c.args.ground.now.star.now in
    let q = c.args.ground.now.query.now in
    let best = c.args.ground.now.best.now in
    let p = c.args.arcs.now in
    let via = c.requires.named.through in
    let t = c.in_ok-trail.trail in
    let is = trail_along net q.from t c.as_slice.result.now p c.in_ok-trail.ensures c.as_slice.ensures in
    let own = g.O.Oracle.graph c.args.oracle.now in
    is_via_walk net own q best c.args.name p t c.place_of-via_at.result c.requires.posed c.requires.same via is c.place_of-via_at.ensures.is c.place_of-via_at.ensures.first

pub stretch-requires : goal.stretch-requires
stretch-requires g c =
    let net = c.args.ground.now.star.now in
    let q = c.args.ground.now.query.now in
    let best = c.args.ground.now.best.now in
    let p = c.args.arcs.now in
    let via = c.requires.named.through in
    let t = c.in_ok-trail.trail in
    let is = trail_along net q.from t c.as_slice.result.now p c.in_ok-trail.ensures c.as_slice.ensures in
    let own = g.O.Oracle.graph c.args.oracle.now in
    subst (λ (o : Graph). IsViaWalk o t c.place_of-via_at.result) (sym c.local.ensures.same)
    (is_via_walk net own q best c.args.name p t c.place_of-via_at.result c.requires.posed c.requires.same via is c.place_of-via_at.ensures.is c.place_of-via_at.ensures.first)

pub detour_of-requires-clause-from : goal.detour_of-requires-clause-from
detour_of-requires-clause-from g c =
    let net = c.args.ground.now.star.now in
    let q = c.args.ground.now.query.now in
    let best = c.args.ground.now.best.now in
    let p = c.args.arcs.now in
    let via = c.requires.named.through in
    let t = c.in_ok-trail.trail in
    let is = trail_along net q.from t c.as_slice.result.now p c.in_ok-trail.ensures c.as_slice.ensures in
    let own = g.O.Oracle.graph c.args.oracle.now in
    let fails = local_some net own q.alpha best.length t c.in_ok-pair.field-0 c.in-Some.pair c.requires.same c.in_ok-pair.ensures.found c.in-Some.is in
    let inside = fails.fails.inside in
    let rise = fails.fails.rise in
    vertex_there net q best c.args.name p t c.in-Some.pair.first c.requires.posed via is (omega arith)

pub detour_of-requires-clause-to : goal.detour_of-requires-clause-to
detour_of-requires-clause-to g c =
    let net = c.args.ground.now.star.now in
    let q = c.args.ground.now.query.now in
    let best = c.args.ground.now.best.now in
    let p = c.args.arcs.now in
    let via = c.requires.named.through in
    let t = c.in_ok-trail.trail in
    let is = trail_along net q.from t c.as_slice.result.now p c.in_ok-trail.ensures c.as_slice.ensures in
    let own = g.O.Oracle.graph c.args.oracle.now in
    let fails = local_some net own q.alpha best.length t c.in_ok-pair.field-0 c.in-Some.pair c.requires.same c.in_ok-pair.ensures.found c.in-Some.is in
    vertex_there net q best c.args.name p t c.in-Some.pair.last c.requires.posed via is fails.fails.inside

pub detour_of-requires-clause-dist : goal.detour_of-requires-clause-dist
detour_of-requires-clause-dist g c =
    let net = c.args.ground.now.star.now in
    let q = c.args.ground.now.query.now in
    let best = c.args.ground.now.best.now in
    let p = c.args.arcs.now in
    let via = c.requires.named.through in
    let t = c.in_ok-trail.trail in
    let is = trail_along net q.from t c.as_slice.result.now p c.in_ok-trail.ensures c.as_slice.ensures in
    let own = g.O.Oracle.graph c.args.oracle.now in
    let fails = local_some net own q.alpha best.length t c.in_ok-pair.field-0 c.in-Some.pair c.requires.same c.in_ok-pair.ensures.found c.in-Some.is in
    fails.fails.dist

pub detour_of-requires-in-Some-2-clause-from : goal.detour_of-requires-in-Some-2-clause-from
detour_of-requires-in-Some-2-clause-from g c =
    let net = c.args.ground.now.star.now in
    let q = c.args.ground.now.query.now in
    let best = c.args.ground.now.best.now in
    let p = c.args.arcs.now in
    let via = c.requires.named.through in
    let t = c.in_ok-trail.trail in
    let is = trail_along net q.from t c.as_slice.result.now p c.in_ok-trail.ensures c.as_slice.ensures in
    let own = g.O.Oracle.graph c.args.oracle.now in
    let fails = stretch_some net own (g.O.Oracle.graph c.local.new.oracle) q.epsilon t c.in_ok-pair-2.field-0 c.in-Some-2.pair c.requires.same c.local.ensures.same c.in_ok-pair-2.ensures.found c.in-Some-2.is in
    let inside = fails.fails.inside in
    let rise = fails.fails.rise in
    vertex_there net q best c.args.name p t c.in-Some-2.pair.first c.requires.posed via is (omega arith)

pub detour_of-requires-in-Some-2-clause-to : goal.detour_of-requires-in-Some-2-clause-to
detour_of-requires-in-Some-2-clause-to g c =
    let net = c.args.ground.now.star.now in
    let q = c.args.ground.now.query.now in
    let best = c.args.ground.now.best.now in
    let p = c.args.arcs.now in
    let via = c.requires.named.through in
    let t = c.in_ok-trail.trail in
    let is = trail_along net q.from t c.as_slice.result.now p c.in_ok-trail.ensures c.as_slice.ensures in
    let own = g.O.Oracle.graph c.args.oracle.now in
    let fails = stretch_some net own (g.O.Oracle.graph c.local.new.oracle) q.epsilon t c.in_ok-pair-2.field-0 c.in-Some-2.pair c.requires.same c.local.ensures.same c.in_ok-pair-2.ensures.found c.in-Some-2.is in
    vertex_there net q best c.args.name p t c.in-Some-2.pair.last c.requires.posed via is fails.fails.inside

pub detour_of-requires-in-Some-2-clause-dist : goal.detour_of-requires-in-Some-2-clause-dist
detour_of-requires-in-Some-2-clause-dist g c =
    let net = c.args.ground.now.star.now in
    let q = c.args.ground.now.query.now in
    let best = c.args.ground.now.best.now in
    let p = c.args.arcs.now in
    let via = c.requires.named.through in
    let t = c.in_ok-trail.trail in
    let is = trail_along net q.from t c.as_slice.result.now p c.in_ok-trail.ensures c.as_slice.ensures in
    let own = g.O.Oracle.graph c.args.oracle.now in
    let fails = stretch_some net own (g.O.Oracle.graph c.local.new.oracle) q.epsilon t c.in_ok-pair-2.field-0 c.in-Some-2.pair c.requires.same c.local.ensures.same c.in_ok-pair-2.ensures.found c.in-Some-2.is in
    fails.fails.dist

pub returns-in-Some-clause-reason : goal.returns-in-Some-clause-reason
returns-in-Some-clause-reason g c =
    let net = c.args.ground.now.star.now in
    let q = c.args.ground.now.query.now in
    let best = c.args.ground.now.best.now in
    let p = c.args.arcs.now in
    let via = c.requires.named.through in
    let t = c.in_ok-trail.trail in
    let is = trail_along net q.from t c.as_slice.result.now p c.in_ok-trail.ensures c.as_slice.ensures in
    let own = g.O.Oracle.graph c.args.oracle.now in
    let fails = local_some net own q.alpha best.length t c.in_ok-pair.field-0 c.in-Some.pair c.requires.same c.in_ok-pair.ensures.found c.in-Some.is in
    local_reason net q best p t c.in-Some.pair.first c.in-Some.pair.last c.in-Some.pair.distance c.in_ok-detour_of.field-0 c.requires.posed is c.requires.other c.requires.limited fails c.in_ok-detour_of.ensures

pub returns-in-Some-2-clause-reason : goal.returns-in-Some-2-clause-reason
returns-in-Some-2-clause-reason g c =
    let net = c.args.ground.now.star.now in
    let q = c.args.ground.now.query.now in
    let best = c.args.ground.now.best.now in
    let p = c.args.arcs.now in
    let via = c.requires.named.through in
    let t = c.in_ok-trail.trail in
    let is = trail_along net q.from t c.as_slice.result.now p c.in_ok-trail.ensures c.as_slice.ensures in
    let own = g.O.Oracle.graph c.args.oracle.now in
    let optimal = local_none net own q.alpha best.length t c.in_ok-pair.field-0 c.requires.same c.in_ok-pair.ensures.found c.in_default.is in
    let fails = stretch_some net own (g.O.Oracle.graph c.local.new.oracle) q.epsilon t c.in_ok-pair-2.field-0 c.in-Some-2.pair c.requires.same c.local.ensures.same c.in_ok-pair-2.ensures.found c.in-Some-2.is in
    stretch_reason net q best p t c.in-Some-2.pair.first c.in-Some-2.pair.last c.in-Some-2.pair.distance c.in_ok-detour_of-2.field-0 c.requires.posed is c.requires.other c.requires.limited optimal fails c.in_ok-detour_of-2.ensures

pub returns-clause-reason : goal.returns-clause-reason
returns-clause-reason g c =
    let net = c.args.ground.now.star.now in
    let q = c.args.ground.now.query.now in
    let best = c.args.ground.now.best.now in
    let p = c.args.arcs.now in
    let via = c.requires.named.through in
    let t = c.in_ok-trail.trail in
    let is = trail_along net q.from t c.as_slice.result.now p c.in_ok-trail.ensures c.as_slice.ensures in
    let own = g.O.Oracle.graph c.args.oracle.now in
    let optimal = local_none net own q.alpha best.length t c.in_ok-pair.field-0 c.requires.same c.in_ok-pair.ensures.found c.in_default.is in
    let bounded = stretch_none net own (g.O.Oracle.graph c.local.new.oracle) q.epsilon t c.in_ok-pair-2.field-0 c.requires.same c.local.ensures.same c.in_ok-pair-2.ensures.found c.in_default-2.is in
    listed_reason net q best p t c.args.name c.number.result c.requires.posed is c.requires.other c.requires.limited optimal bounded c.requires.named c.number.ensures.value
