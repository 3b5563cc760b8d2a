use Rattle.std.proofs.Common.{Some}
use Rattle.plateau_finder.proofs.Gathered.{in_order_of}
use Rattle.plateau_finder.proofs.finding.plateaus_within.Goals as goal

pub returns : goal.returns
returns c =
    in_order_of c.args.pair.now (Some c.args.bound) c.in_ok-gathered.field-0.items c.in_ok-list.list c.in_ok-gathered.ensures c.in_ok-list.ensures.0 c.in_ok-list.ensures.1
