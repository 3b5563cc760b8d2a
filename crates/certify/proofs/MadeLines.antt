-- The lines of routes, and a query as it is put to the tests.
use Rattle.std.proofs.Common.{◌≡◌, ℕ, ◌+◌, ◌<◌, ◌^◌, List, [], ◌∷◌, ◌++◌, length, get_or, take, map, Some, sym, ap, ◌∙◌}
use Rattle.std.proofs.lemmas.List.{map_more}
use Rattle.road_model.specs.declared.answer.Optimum.{Optimum}
use Rattle.road_model.specs.declared.answer.Query.{Query}
use Rattle.road_model.specs.declared.answer.Route.{Route}
use Rattle.road_model.specs.Graph.{Graph, IsVertex}
use Rattle.road_model.specs.File.{IsWithinLimits}
use Rattle.road_model.specs.Canonical.{IsOptimum}
use Rattle.road_model.proofs.Dists.{dist_of_shortest}
use Rattle.forward_star.proofs.Bound.{dists_below}
use Rattle.canonical_trees.proofs.Balls.{dist_below}
use Rattle.certificate_text.specs.declared.certificate.CertRoute.{CertRoute}
use Rattle.certify.specs.Written.{cert_route}
use Rattle.certify.specs.Reasons.{IsPosed}

abbrev pub line_with : Route → ℕ → List ℕ → CertRoute
line_with r via arcs = record { via = via; length = r.length; shared = r.shared; plateau = r.plateau; rank = r.rank; arcs = arcs }

pub lines_more : (rs : List Route) (i : ℕ) (r : Route) (via : ℕ) (arcs told : List ℕ) (old now : List CertRoute) → i < length rs → r ≡ get_or rs i r → via ≡ r.via → arcs ≡ told → told ≡ r.arcs → now ≡ old ++ line_with r via arcs ∷ [] → old ≡ map cert_route (take i rs) → now ≡ map cert_route (take (i + 1) rs)
lines_more rs i r via arcs told old now lt is same_via same_arcs same more before =
    more
    ∙ ap (λ (n : ℕ). old ++ line_with r n arcs ∷ []) same_via
    ∙ ap (λ (l : List ℕ). old ++ line_with r r.via l ∷ []) (same_arcs ∙ same)
    ∙ ap (λ (l : List CertRoute). l ++ cert_route r ∷ []) before
    ∙ ap (λ (x : Route). map cert_route (take i rs) ++ cert_route x ∷ []) is
    ∙ sym (map_more cert_route rs i r lt)

pub posed_of : (g : Graph) (q : Query) (best : Optimum) → IsWithinLimits g → IsVertex g.vertices q.from → IsVertex g.vertices q.to → IsOptimum g q.from q.to (Some best) → IsPosed g q best
posed_of g q best limits source target h =
    record {
      limits = limits;
      source = source;
      target = target;
      best = h;
      short = dist_below g q.from q.to best.length (2 ^ 57) (dists_below g limits) (rw h.1 (dist_of_shortest g q.from q.to best.arcs h.0.shortest));
    }
