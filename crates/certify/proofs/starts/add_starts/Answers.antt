use Rattle.std.proofs.Common.{ℕ, List, length, sym, subst, ◌≡◌, ◌<◌, ◌-◌, ◌^◌, arith}
use Rattle.road_model.specs.Walk.{IsWalkFrom, walk_length}
use Rattle.certify.proofs.RouteStarts.{via_from, via_short, via_stands, via_place, trail_lists, trail_along, adds_more, adds_route}
use Rattle.certify.proofs.starts.add_starts.Goals as goal

pub of-requires-clause-walk : goal.of-requires-clause-walk
of-requires-clause-walk c =
    let r = c.args.route.now in
    subst (λ (p : List ℕ). IsWalkFrom c.args.star.now c.args.from p) (sym c.as_slice.ensures) (via_from c.args.star.now c.args.from c.requires.target r.via r.arcs c.requires.through)

pub of-requires-clause-short : goal.of-requires-clause-short
of-requires-clause-short c =
    let r = c.args.route.now in
    subst (λ (p : List ℕ). walk_length c.args.star.now p < 2 ^ 58) (sym c.as_slice.ensures) (via_short c.args.star.now c.args.from c.requires.target r.via r.arcs c.within_limits.ensures c.requires.through)

pub place_of-via_at-requires : goal.place_of-via_at-requires
place_of-via_at-requires c =
    let r = c.args.route.now in
    let is = trail_along c.args.star.now c.args.from c.in_ok-trail.trail c.as_slice.result.now r.arcs c.in_ok-trail.ensures c.as_slice.ensures in
    via_stands c.args.star.now c.args.from c.requires.target r.via r.arcs c.in_ok-trail.trail c.requires.through is

pub start_at-requires-clause-inside : goal.start_at-requires-clause-inside
start_at-requires-clause-inside c =
    let r = c.args.route.now in
    let is = trail_along c.args.star.now c.args.from c.in_ok-trail.trail c.as_slice.result.now r.arcs c.in_ok-trail.ensures c.as_slice.ensures in
    let lists = trail_lists c.args.star.now c.args.from r.arcs c.in_ok-trail.trail is in
    omega (arith, c.loop-place-test.true, c.place_of-via_at.ensures.inside, lists.vertices, lists.sums)

pub start_at-requires-clause-both : goal.start_at-requires-clause-both
start_at-requires-clause-both c =
    let r = c.args.route.now in
    let is = trail_along c.args.star.now c.args.from c.in_ok-trail.trail c.as_slice.result.now r.arcs c.in_ok-trail.ensures c.as_slice.ensures in
    let lists = trail_lists c.args.star.now c.args.from r.arcs c.in_ok-trail.trail is in
    omega (arith, lists.vertices, lists.sums)

pub start_at-requires-clause-rising : goal.start_at-requires-clause-rising
start_at-requires-clause-rising c =
    let r = c.args.route.now in
    let is = trail_along c.args.star.now c.args.from c.in_ok-trail.trail c.as_slice.result.now r.arcs c.in_ok-trail.ensures c.as_slice.ensures in
    let lists = trail_lists c.args.star.now c.args.from r.arcs c.in_ok-trail.trail is in
    lists.rising c.loop-place.place (length c.in_ok-trail.trail.sums - 1)
    (omega (arith, c.loop-place-test.true, c.place_of-via_at.ensures.inside, lists.vertices, lists.sums))
    (omega (arith, lists.sums))

pub loop-place-preserved : goal.loop-place-preserved
loop-place-preserved c =
    adds_more c.in_ok-trail.trail c.loop-place.place c.args.starts.now.items c.loop-place.starts.items c.push.new.self.items c.start_at.result
    c.in_ok-push.ensures.items c.start_at.ensures.vertex c.start_at.ensures.rest c.loop-place.invariant

pub returns : goal.returns
returns c =
    let r = c.args.route.now in
    let g = c.args.star.now in
    let is = trail_along g c.args.from c.in_ok-trail.trail c.as_slice.result.now r.arcs c.in_ok-trail.ensures c.as_slice.ensures in
    let place = via_place g c.args.from c.requires.target r.via r.arcs c.in_ok-trail.trail c.place_of-via_at.result c.within_limits.ensures.is_graph c.requires.through is c.place_of-via_at.ensures.is c.place_of-via_at.ensures.first in
    let end : c.loop-place.place ≡ length c.requires.through.prefix = omega (arith, c.loop-place.auto.place-end, c.loop-place-test.false, place) in
    adds_route g c.args.from r c.in_ok-trail.trail c.loop-place.place c.args.starts.now.items c.loop-place.starts.items c.requires is end c.loop-place.invariant
