use Rattle.std.proofs.Common.{◌<◌, ◌≤◌, length, sym, subst, arith}
use Rattle.road_model.specs.Graph.{Graph}
use Rattle.road_model.specs.Places.{IsDistAt}
use Rattle.road_model.specs.Tests.{FailsStretch}
use Rattle.path_tests.specs.JoinedTrail.{IsJoinedTrail}
use Rattle.path_tests.specs.Rectangle.{FindsIn}
use Rattle.path_tests.proofs.JoinedTrails.{IsJoinedTrail-from_via_walk}
use Rattle.path_tests.proofs.Halving.{whole_in, whole_none, IsRectangle-whole, none_without, finds_in_whole}
use Rattle.path_tests.proofs.stretching.stretch.Goals as goal

pub whole_rectangle-requires : goal.whole_rectangle-requires
whole_rectangle-requires g c =
    let joined = IsJoinedTrail-from_via_walk (g.O.Oracle.graph c.args.oracle.now) c.args.trail.now c.args.via_at c.requires in
    record { few = joined.few; inside = joined.via_inside }

pub returns-in_default-clause-found : goal.returns-in_default-clause-found
returns-in_default-clause-found g c =
    let old = g.O.Oracle.graph c.args.oracle.now in
    none_without old c.args.epsilon.now c.args.trail.now c.args.via_at (IsJoinedTrail-from_via_walk old c.args.trail.now c.args.via_at c.requires)
    (whole_none c.args.trail.now c.args.via_at c.whole_rectangle.result c.whole_rectangle.ensures c.in_default.is)

pub distance_between-requires : goal.distance_between-requires
distance_between-requires g c =
    let old = g.O.Oracle.graph c.args.oracle.now in
    let joined = IsJoinedTrail-from_via_walk old c.args.trail.now c.args.via_at c.requires in
    let area = IsRectangle-whole c.args.trail.now c.args.via_at c.in-Some.whole (whole_in c.args.trail.now c.args.via_at c.whole_rectangle.result c.in-Some.whole c.whole_rectangle.ensures c.in-Some.is) in
    let start : c.in-Some.whole.low < length c.args.trail.now.vertices = omega (arith, area.rows, area.before, joined.via_inside) in
    let rise : c.in-Some.whole.low ≤ c.in-Some.whole.to = omega (arith, area.rows, area.before, area.beyond, area.columns) in
    record {
      start = start;
      inside = area.inside;
      from = joined.vertices c.in-Some.whole.low start;
      to = joined.vertices c.in-Some.whole.to area.inside;
      reached = joined.reached c.in-Some.whole.low c.in-Some.whole.to rise area.inside;
    }

pub least_in-requires : goal.least_in-requires
least_in-requires g c =
    let old = g.O.Oracle.graph c.args.oracle.now in
    let joined = IsJoinedTrail-from_via_walk old c.args.trail.now c.args.via_at c.requires in
    record {
      joined = subst (λ (x : Graph). IsJoinedTrail x c.args.trail.now c.args.via_at) (sym c.distance_between.ensures.same) joined;
      area = IsRectangle-whole c.args.trail.now c.args.via_at c.in-Some.whole (whole_in c.args.trail.now c.args.via_at c.whole_rectangle.result c.in-Some.whole c.whole_rectangle.ensures c.in-Some.is);
      outer = subst (λ (x : Graph). IsDistAt x c.args.trail.now c.in-Some.whole.low c.in-Some.whole.to c.in_ok-distance.distance) (sym c.distance_between.ensures.same) c.in_ok-distance.ensures.answer;
    }

pub returns-clause-found : goal.returns-clause-found
returns-clause-found g c =
    let old = g.O.Oracle.graph c.args.oracle.now in
    let joined = IsJoinedTrail-from_via_walk old c.args.trail.now c.args.via_at c.requires in
    finds_in_whole old c.args.epsilon.now c.args.trail.now c.args.via_at c.in-Some.whole c.in_ok-found.found joined
    (whole_in c.args.trail.now c.args.via_at c.whole_rectangle.result c.in-Some.whole c.whole_rectangle.ensures c.in-Some.is)
    (subst (λ (x : Graph). FindsIn (FailsStretch x c.args.epsilon.now c.args.trail.now) c.in-Some.whole c.in_ok-found.found) c.distance_between.ensures.same c.in_ok-found.ensures.found)
