use Rattle.std.proofs.Common.{◌^◌, ℕ, Option, Some, subst}
use Rattle.road_model.specs.Dist.{IsDist}
use Rattle.forward_star.proofs.Bound.{dists_below}
use Rattle.canonical_trees.proofs.Balls.{dist_below}
use Rattle.hierarchy_optimum.proofs.optimum.optimum_by.Goals as goal

pub returns-clause-short : goal.returns-clause-short
returns-clause-short c =
    let d = c.args.distances.now in
    dist_below c.args.star.now d.source c.args.t c.in-Some.length (2 ^ 57) (dists_below c.args.star.now c.within_limits.ensures)
    ((c.requires.same.dist d.source c.args.t (Some c.in-Some.length)).1
    (subst (λ (o : Option ℕ). IsDist c.args.distances.now.graph c.args.distances.now.source c.args.t o) c.in-Some.is c.in_ok-length.ensures.answer))
