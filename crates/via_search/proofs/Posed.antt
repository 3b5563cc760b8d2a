-- The optimum of a query, as the rest of a verdict takes it.
use Rattle.std.proofs.Common.{◌≡◌, ◌<◌, ◌^◌, Option, Some, IfSome, subst}
use Rattle.road_model.specs.declared.answer.Optimum.{Optimum}
use Rattle.road_model.specs.declared.answer.Query.{Query}
use Rattle.road_model.specs.Graph.{Graph, IsVertex}
use Rattle.road_model.specs.File.{IsWithinLimits}
use Rattle.road_model.specs.Canonical.{IsOptimum}
use Rattle.via_search.specs.Candidates.{IsPosed}

pub posed_of : (g : Graph) (q : Query) (result : Option Optimum) (o : Optimum) → IsWithinLimits g → IsVertex g.vertices q.from → result ≡ Some o → IsOptimum g q.from q.to result → IfSome result (λ (x : Optimum). x.length < 2 ^ 57) → IsPosed g q o
posed_of g q result o limits source is best short =
    record {
      limits = limits;
      source = source;
      best = subst (λ (x : Option Optimum). IsOptimum g q.from q.to x) is best;
      short = subst (λ (x : Option Optimum). IfSome x (λ (y : Optimum). y.length < 2 ^ 57)) is short;
    }
