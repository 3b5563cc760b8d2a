use Rattle.std.proofs.Common.{inl, inr}
use Rattle.tree_tests.proofs.Pieces.{side_never, other_dist, not_stretched}
use Rattle.tree_tests.proofs.refusals.is_detour.Goals as goal

pub returns-then-not-stretches : goal.returns-then-not-stretches
returns-then-not-stretches c = λ t near on ahead.
    let ts = c.args.pair.now in
    side_never ts c.args.query.now c.args.side c.args.opt_len c.args.y c.args.w c.args.x c.in-Some.start c.in-Some-label.end c.in-Some-label-2.near c.in-Some-label-3.left c.in-Some-label-4.rest
    c.requires near on ahead c.in-Some.ensures.is c.in-Some-label.ensures.is c.in-Some-label-2.ensures.is
    (other_dist ts c.args.side c.opposite-other.result c.args.w c.in-Some-label-3.left c.opposite-other.ensures c.in-Some-label-3.ensures.is)
    (other_dist ts c.args.side c.opposite-other.result c.args.x c.in-Some-label-4.rest c.opposite-other.ensures c.in-Some-label-4.ensures.is)
    (inl (not_stretched c.args.query.now _ _ c.stretches.result c.stretches.ensures c.if-not-stretches.true))

pub returns : goal.returns
returns c = λ t near on ahead.
    let ts = c.args.pair.now in
    side_never ts c.args.query.now c.args.side c.args.opt_len c.args.y c.args.w c.args.x c.in-Some.start c.in-Some-label.end c.in-Some-label-2.near c.in-Some-label-3.left c.in-Some-label-4.rest
    c.requires near on ahead c.in-Some.ensures.is c.in-Some-label.ensures.is c.in-Some-label-2.ensures.is
    (other_dist ts c.args.side c.opposite-other.result c.args.w c.in-Some-label-3.left c.opposite-other.ensures c.in-Some-label-3.ensures.is)
    (other_dist ts c.args.side c.opposite-other.result c.args.x c.in-Some-label-4.rest c.opposite-other.ensures c.in-Some-label-4.ensures.is)
    (inr (c.if-long-distance.false, c.allows.ensures.0 t))
