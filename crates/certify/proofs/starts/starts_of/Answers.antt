use Rattle.certify.proofs.RouteStarts.{starts_more}
use Rattle.certify.proofs.starts.starts_of.Goals as goal

pub loop-route-preserved : goal.loop-route-preserved
loop-route-preserved c =
    starts_more c.args.star.now c.args.from c.args.others.now c.loop-route.route-index c.route-item.result c.loop-route.starts.items c.add_starts.new.starts.items
    c.loop-route-test.true c.route-item.is c.loop-route.invariant c.in_ok-add_starts.ensures
