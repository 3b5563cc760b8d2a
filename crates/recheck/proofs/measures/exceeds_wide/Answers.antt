use Rattle.std.proofs.Common.{◌+◌, ap, ◌∙◌}
use Rattle.recheck.proofs.RatioTests.{part_by, whole_by, below}
use Rattle.recheck.proofs.measures.exceeds_wide.Goals as goal

pub returns : goal.returns
returns c =
    let part = part_by c.scaled.result c.args.part c.den.result c.args.ratio.now.den c.scaled.ensures c.den.ensures.value in
    let whole = whole_by c.scaled-2.result c.args.whole _ _ c.scaled-2.ensures (ap (λ n. n + c.num.result) c.den-2.ensures.value ∙ ap (λ n. c.args.ratio.now.den + n) c.num.ensures.value) in
    below _ _ _ _ whole part
