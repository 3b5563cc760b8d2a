use Rattle.std.proofs.Common.{Some}
use Rattle.plateau_finder.proofs.Gathered.{in_order_of}
use Rattle.plateau_finder.proofs.finding.plateaus_forked.Goals as goal

pub returns : goal.returns
returns g c =
    in_order_of c.args.pair.now (Some c.args.bound) c.in_ok-gathered_forked.field-0.items c.in_ok-list.list c.in_ok-gathered_forked.ensures c.in_ok-list.ensures.0 c.in_ok-list.ensures.1
