use Rattle.std.proofs.Common.{◌∙◌, ◌≤◌, ap, sym, subst}
use Rattle.road_model.specs.Graph.{Graph}
use Rattle.route_engine.specs.Lineage.{Lineage, graph_of}
use Rattle.grid_maker.specs.Grid.{IsSide}
use Rattle.grid_survey.proofs.Grids.{some_vertex}
use Rattle.grid_survey.proofs.survey.Goals as goal

pub answer_all-requires-clause-some : goal.answer_all-requires-clause-some
answer_all-requires-clause-some g c κs within =
    subst (λ (g : Graph). 1 ≤ g.vertices) (sym (ap (λ (v : Lineage). graph_of v) c.in_ok-version.ensures ∙ c.in_ok-graph.ensures.grid))
    (some_vertex c.args.seed c.args.width c.args.height
    (λ (none : IsSide c.args.width × IsSide c.args.height → ⊥). cc (c.in_ok-graph.ensures.size.1 none)))
