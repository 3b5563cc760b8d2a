use Rattle.std.proofs.Common.{length}
use Rattle.recheck.specs.Routes.{IsUnstretched}
use Rattle.recheck.specs.Across.{EachAfter, IsLowAt}
use Rattle.recheck.proofs.Splits.{unstretched_split, each_no, each_yes}
use Rattle.recheck.proofs.across.is_unstretched.Goals as goal

pub returns-then-not-is_unstretched_at : goal.returns-then-not-is_unstretched_at
returns-then-not-is_unstretched_at c =
    each_no c.via_place-via_at.result c.loop-first.first (λ i. EachAfter c.via_place-via_at.result (length c.args.places.now.vertices) (IsLowAt c.args.basis.now c.args.places.now i)) (IsUnstretched c.args.basis.now c.args.r.now) c.is_unstretched_at.result
    (unstretched_split c.args.basis.now c.args.r.now c.args.places.now c.via_place-via_at.result c.via_place-via_at.ensures.split)
    c.loop-first-test.true c.is_unstretched_at.ensures c.if-not-is_unstretched_at.true

pub returns : goal.returns
returns c =
    each_yes c.via_place-via_at.result c.loop-first.first (λ i. EachAfter c.via_place-via_at.result (length c.args.places.now.vertices) (IsLowAt c.args.basis.now c.args.places.now i)) (IsUnstretched c.args.basis.now c.args.r.now)
    (unstretched_split c.args.basis.now c.args.r.now c.args.places.now c.via_place-via_at.result c.via_place-via_at.ensures.split)
    c.loop-first-test.false c.loop-first.invariant
