use Rattle.std.proofs.Common.{arith}
use Rattle.road_model.specs.declared.answer.Route.{Route}
use Rattle.line_front.specs.Replies.{line_text, route_text}
use Rattle.road_text.proofs.PieceLemmas.{Appends_cut, Appends_exit, Appends_more}
use Rattle.line_front.proofs.items.put_routes.Goals as goal

pub returns-in_err-put_route : goal.returns-in_err-put_route
returns-in_err-put_route g c =
    Appends_exit _ c.from_residual.ensures.0
    (Appends_cut _ _ (λ (r : Route). line_text (route_text r)) c.args.routes.now c.loop-route.route-index c.route-item.result _ _ _ (omega arith) c.route-item.is
    c.loop-route.invariant c.in_err-put_route.ensures)

pub loop-route-preserved : goal.loop-route-preserved
loop-route-preserved g c =
    Appends_more _ _ (λ (r : Route). line_text (route_text r)) c.args.routes.now c.loop-route.route-index c.route-item.result _ _ _ (omega arith) c.route-item.is
    c.loop-route.invariant c.in_ok-put_route.ensures
