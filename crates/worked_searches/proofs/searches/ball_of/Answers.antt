use Rattle.std.proofs.Common.{◌≤◌, ◌^◌, ℕ, Option, Some, None, unwrap_or, arith}
use Rattle.road_model.specs.Graph.{Graph}
use Rattle.road_model.specs.Dist.{DistsBelow}
use Rattle.forward_star.proofs.Bound.{dists_below, DistsBelow-weaker}
use Rattle.tree_search.specs.Ball.{IsBounded}
use Rattle.worked_searches.proofs.searches.ball_of.Goals as goal

bounded : (g : Graph) (radius : Option ℕ) → DistsBelow g (2 ^ 58) → unwrap_or radius 0 ≤ 1000000000 → IsBounded g radius
bounded g None near low = near
bounded g (Some r) near low = omega arith

pub ball-requires-clause-bounded : goal.ball-requires-clause-bounded
ball-requires-clause-bounded c =
    let g = c.args.star.now in
    let is = c.unwrap_or.ensures in
    bounded g c.args.radius (DistsBelow-weaker g (2 ^ 57) (2 ^ 58) (omega arith) (dists_below g c.vertices-vertices.ensures.limits)) (omega arith)
