use Rattle.std.proofs.Common.{◌≡◌, subst, arith}
use Rattle.road_model.specs.Places.{vertex_at}
use Rattle.recheck.specs.Paths.{Ground}
use Rattle.recheck.specs.Standing.{IsSound}
use Rattle.recheck.proofs.Splits.{measured_of, split_at, some_place}
use Rattle.recheck.proofs.across.via_place.Goals as goal

pub returns-then-vertex-r-clause-split : goal.returns-then-vertex-r-clause-split
returns-then-vertex-r-clause-split c =
    let sound : IsSound c.args.basis.now = subst (λ (x : Ground). IsSound x) c.basis.view_is c.basis.invariant in
    split_at c.args.basis.now c.args.r.now c.args.places.now c.loop-place.place sound c.requires.path c.requires.through (omega arith) c.loop-place.invariant (let at : c.vertex.result ≡ vertex_at c.args.places.now c.loop-place.place = c.vertex.ensures in let same : c.vertex.result ≡ c.args.r.now.via = c.if-vertex-r.true in cc)

pub returns-then-vertex-r-clause-measured : goal.returns-then-vertex-r-clause-measured
returns-then-vertex-r-clause-measured c = measured_of c.args.basis.now c.args.r.now c.args.places.now c.requires.path

pub unreachable-requires : goal.unreachable-requires
unreachable-requires c =
    let sound : IsSound c.args.basis.now = subst (λ (x : Ground). IsSound x) c.basis.view_is c.basis.invariant in
    some_place c.args.basis.now c.args.r.now c.args.places.now c.loop-place.place sound c.requires.path c.requires.through (omega arith) c.loop-place.invariant
