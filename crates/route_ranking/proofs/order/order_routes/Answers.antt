use Rattle.std.proofs.Common.{rules, List, sym, subst}
use Rattle.std.proofs.lemmas.List.Sorted.{answers_always}
use Rattle.road_model.specs.declared.answer.Route.{Route}
use Rattle.route_ranking.specs.Order.{IsInOrder}
use Rattle.route_ranking.proofs.Ranked.{IsInOrder-from_sorted}
use Rattle.route_ranking.proofs.order.order_routes.Goals as goal

pub returns-clause-order : goal.returns-clause-order
returns-clause-order c =
    subst (λ (l : List Route). IsInOrder l) (sym c.from_vec.ensures)
    (IsInOrder-from_sorted _ (c.in_ok-sort_by_key.ensures.sorted (λ (r : Route). (r.rank, r.via)) (answers_always _ _ _ (λ f a r g h. search rules))))
