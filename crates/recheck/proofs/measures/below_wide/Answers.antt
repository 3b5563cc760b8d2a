use Rattle.recheck.proofs.RatioTests.{part_by, whole_by, below}
use Rattle.recheck.proofs.measures.below_wide.Goals as goal

pub returns : goal.returns
returns c =
    let part = part_by c.scaled.result c.args.part c.den.result c.args.ratio.now.den c.scaled.ensures c.den.ensures.value in
    let whole = whole_by c.scaled-2.result c.args.whole _ _ c.scaled-2.ensures c.num.ensures.value in
    below _ _ _ _ part whole
