use Rattle.std.proofs.Common.{◌∙◌, sym, subst}
use Rattle.road_model.specs.Graph.{Graph}
use Rattle.road_model.specs.File.{IsWithinLimits}
use Rattle.grid_maker.proofs.Rows.{grid_made, grid_same}
use Rattle.grid_maker.proofs.Limits.{within_limits}
use Rattle.grid_maker.proofs.make.Goals as goal

pub new-graph-requires : goal.new-graph-requires
new-graph-requires c =
    let s = c.in-Some.sides in
    let made = grid_made c.args.seed s.width s.height c.vertices.result c.in_ok-streets.streets c.push_grid.new.self c.from_vec.result c.in_ok-streets.ensures c.in_ok-push_grid.ensures c.vertices.ensures c.from_vec.ensures in
    subst (λ (g : Graph). IsWithinLimits g) (sym made) (within_limits c.args.seed s.width s.height s.wide s.high)

pub returns-clause-grid : goal.returns-clause-grid
returns-clause-grid c =
    let s = c.in-Some.sides in
    let made = grid_made c.args.seed s.width s.height c.vertices.result c.in_ok-streets.streets c.push_grid.new.self c.from_vec.result c.in_ok-streets.ensures c.in_ok-push_grid.ensures c.vertices.ensures c.from_vec.ensures in
    c.new-graph.ensures ∙ made ∙ grid_same c.args.seed s.width s.height c.args.width c.args.height c.in-Some.ensures.same.0 c.in-Some.ensures.same.1
