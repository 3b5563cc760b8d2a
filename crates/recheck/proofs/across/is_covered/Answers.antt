use Rattle.recheck.specs.Routes.{IsCovered}
use Rattle.recheck.specs.Across.{IsCoveredAt}
use Rattle.recheck.proofs.Splits.{covered_split, each_no, each_yes}
use Rattle.recheck.proofs.across.is_covered.Goals as goal

pub returns-then-not-is_covered_at : goal.returns-then-not-is_covered_at
returns-then-not-is_covered_at c =
    each_no c.via_place-via_at.result c.loop-first.first (IsCoveredAt c.args.basis.now c.args.places.now) (IsCovered c.args.basis.now c.args.r.now) c.is_covered_at.result
    (covered_split c.args.basis.now c.args.r.now c.args.places.now c.via_place-via_at.result c.via_place-via_at.ensures.split)
    c.loop-first-test.true c.is_covered_at.ensures c.if-not-is_covered_at.true

pub returns : goal.returns
returns c =
    each_yes c.via_place-via_at.result c.loop-first.first (IsCoveredAt c.args.basis.now c.args.places.now) (IsCovered c.args.basis.now c.args.r.now)
    (covered_split c.args.basis.now c.args.r.now c.args.places.now c.via_place-via_at.result c.via_place-via_at.ensures.split)
    c.loop-first-test.false c.loop-first.invariant
