use Rattle.std.proofs.Common.{below_more, length}
use Rattle.recheck.specs.Routes.{IsLocal}
use Rattle.recheck.specs.Across.{EachAfter, IsLocalAt}
use Rattle.recheck.proofs.Splits.{local_split, each_no, each_yes}
use Rattle.recheck.proofs.across.is_local.Goals as goal

pub returns-then-not-is_local_at : goal.returns-then-not-is_local_at
returns-then-not-is_local_at c =
    each_no c.via_place-via_at.result c.loop-first.first (λ i. EachAfter c.via_place-via_at.result (length c.args.places.now.vertices) (IsLocalAt c.args.basis.now c.args.places.now i)) (IsLocal c.args.basis.now c.args.r.now) c.is_local_at.result
    (local_split c.args.basis.now c.args.r.now c.args.places.now c.via_place-via_at.result c.via_place-via_at.ensures.split)
    c.loop-first-test.true c.is_local_at.ensures c.if-not-is_local_at.true

pub loop-first-preserved : goal.loop-first-preserved
loop-first-preserved c = below_more _ _ c.loop-first.invariant (c.is_local_at.ensures.0 c.if-not-is_local_at.false)

pub returns : goal.returns
returns c =
    each_yes c.via_place-via_at.result c.loop-first.first (λ i. EachAfter c.via_place-via_at.result (length c.args.places.now.vertices) (IsLocalAt c.args.basis.now c.args.places.now i)) (IsLocal c.args.basis.now c.args.r.now)
    (local_split c.args.basis.now c.args.r.now c.args.places.now c.via_place-via_at.result c.via_place-via_at.ensures.split)
    c.loop-first-test.false c.loop-first.invariant
