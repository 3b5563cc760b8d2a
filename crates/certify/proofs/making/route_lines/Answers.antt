use Rattle.certify.proofs.MadeLines.{lines_more}
use Rattle.certify.proofs.making.route_lines.Goals as goal

pub loop-route-preserved : goal.loop-route-preserved
loop-route-preserved c =
    lines_more c.args.others.now c.loop-route.route-index c.route-item.result c.number.result c.in_ok-numbers_of.field-0 c.as_slice.result.now c.loop-route.lines.items c.push.new.self.items
    c.loop-route-test.true c.route-item.is c.number.ensures.value c.in_ok-numbers_of.ensures c.as_slice.ensures c.in_ok-push.ensures.items c.loop-route.invariant
