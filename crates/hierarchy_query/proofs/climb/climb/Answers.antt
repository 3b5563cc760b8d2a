use Rattle.std.proofs.Common.{◌<◌, ◌+◌, ℕ, length, slice_index, sym, subst, arith}
use Rattle.hierarchy_build.specs.Runs.{InSpan}
use Rattle.hierarchy_query.specs.Climbs.{CanRelax}
use Rattle.hierarchy_query.proofs.Climbs.{CanRelax-climb, Climbing-start, Climbing-relaxed, IsClimbed-top}
use Rattle.hierarchy_query.proofs.climb.climb.Goals as goal

pub up-init : goal.up-init
up-init c =
    record {
      climbing = Climbing-start (length c.args.labels.now) c.args.first.now c.args.head.now c.args.links.now c.args.s c.args.labels.now c.requires.rank c.requires.blank;
      few = omega arith;
    }

pub relax-requires-clause-can : goal.relax-requires-clause-can
relax-requires-clause-can c =
    let climbing = c.up.invariant.climbing in
    subst (λ (n : ℕ). CanRelax n c.args.links.now c.up.x) (sym climbing.size)
    (CanRelax-climb (length c.args.labels.now) c.args.first.now c.args.head.now c.args.links.now c.up.x c.requires.can climbing.inside)

pub up-preserved : goal.up-preserved
up-preserved c =
    let some : slice_index c.args.first.now c.up.x < slice_index c.args.first.now (c.up.x + 1) = omega (arith, c.up-test.true) in
    let at : InSpan c.args.first.now c.up.x (slice_index c.args.first.now c.up.x) = record { low = omega arith; high = some } in
    let above : c.up.x < slice_index c.args.head.now (slice_index c.args.first.now c.up.x) = c.requires.can.shape.above c.up.x (slice_index c.args.first.now c.up.x) c.up.invariant.climbing.inside at in
    let few = c.up.invariant.few in
    record {
      climbing = Climbing-relaxed (length c.args.labels.now) c.args.first.now c.args.head.now c.args.links.now c.args.s c.up.x c.up.labels c.relax.new.labels c.requires.can some c.up.invariant.climbing c.relax.ensures;
      few = omega arith;
    }

pub returns : goal.returns
returns c =
    IsClimbed-top (length c.args.labels.now) c.args.first.now c.args.head.now c.args.links.now c.args.s c.up.x c.up.labels c.requires.can (omega (arith, c.up-test.false)) c.up.invariant.climbing
