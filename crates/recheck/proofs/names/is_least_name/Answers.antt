use Rattle.recheck.proofs.RunEnds.{name_told}
use Rattle.recheck.proofs.names.is_least_name.Goals as goal

pub returns : goal.returns
returns c =
    name_told c.args.basis.now c.side_after-after.ensures.sound c.args.r.now c.side_after-after.result.end c.side_after-after.result.least c.side_before-before.result.end c.side_before-before.result.least c.min.result
    c.requires.near c.requires.own.through c.side_after-after.ensures.whole c.side_before-before.ensures c.min.ensures
