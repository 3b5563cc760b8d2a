-- The whole answer of graph A, from 1 to 6: the optimum 1 2, and the alternative 3 4 5.
use Rattle.std.proofs.Common.{◌≡◌, ◌≢◌, ℕ, ◌<◌, ◌≤◌, ◌⊎◌, zero, suc, List, [], ◌∷◌, length, get_or, Some, refl, sym, ap, subst, arith, inl, inr}
use Rattle.road_model.specs.declared.answer.Plan.{Plan}
use Rattle.road_model.specs.declared.answer.Plan.TheVariants.{NoPath, Found}
use Rattle.road_model.specs.declared.answer.Route.{Route}
use Rattle.road_model.specs.Graph.{IsVertex}
use Rattle.road_model.specs.Dist.{IsDist, IsShortest}
use Rattle.road_model.specs.Canonical.{IsFirst, IsLast}
use Rattle.road_model.specs.Alternatives.{IsVia, IsAlternative, IsName, IsPlateau}
use Rattle.road_model.specs.Answers.{IsRoute, IsListing, IsAnswer}
use Rattle.road_model.proofs.Dists.{IsDist-same}
use Rattle.road_model.specs.Queries.{usual}
use Rattle.road_model.proofs.CanonicalWalks.{IsVia-unique}
use Rattle.road_laws.specs.Worked.{arc, graph_a, optimum_a, route_a, plan_a}
use Rattle.road_laws.proofs.Potentials.{dist_by, shortest_by}
use Rattle.road_laws.proofs.LeastArcs.{last_by, first_by}
use Rattle.road_laws.proofs.Vias.{no_via}
use Rattle.road_laws.proofs.Listings.{answer_is_one_lem}
use Rattle.road_laws.proofs.Walked.{shortest_12, via_3}
use Rattle.road_laws.proofs.Tried.{admissible_a, no_via_5, from_1, from_4}

abbrev from_2 : List ℕ
from_2 = 0 ∷ 100 ∷ 0 ∷ 1 ∷ 7 ∷ 100 ∷ 10 ∷ []

apart : (a b : ℕ) → a < b → a ≢ b
apart a b lt e = omega arith

inside : (v : ℕ) → 1 ≤ v → v ≤ 6 → IsVertex 6 v
inside v low high = record { first = low; last = high }

nothing : (v : ℕ) → IsShortest graph_a v [] v
nothing v = record { walk = refl; least = (λ q w. omega arith) }

first_6 : IsFirst graph_a 1 (1 ∷ 2 ∷ []) 6
first_6 = first_by graph_a 1 6 (1 ∷ 2 ∷ []) shortest_12 (apart 1 6 (omega arith), refl, (apart 1 2 (omega arith), refl, tt))

first_1 : IsFirst graph_a 1 [] 1
first_1 = first_by graph_a 1 1 [] (nothing 1) tt

first_2 : IsFirst graph_a 1 (1 ∷ []) 2
first_2 = first_by graph_a 1 2 (1 ∷ []) (shortest_by from_1 graph_a 1 2 (1 ∷ []) refl (arc 1 2 10, refl, refl, refl) refl refl) (apart 1 2 (omega arith), refl, tt)

first_4 : IsFirst graph_a 1 (3 ∷ 4 ∷ []) 4
first_4 = first_by graph_a 1 4 (3 ∷ 4 ∷ []) (shortest_by from_1 graph_a 1 4 (3 ∷ 4 ∷ []) refl (arc 1 3 11, refl, refl, (arc 3 4 6, refl, refl, refl)) refl refl) (apart 1 4 (omega arith), refl, (apart 1 3 (omega arith), refl, tt))

last_1 : IsLast graph_a 1 (1 ∷ 2 ∷ []) 6
last_1 = last_by graph_a 1 6 (1 ∷ 2 ∷ []) shortest_12 (apart 1 6 (omega arith), refl, (apart 2 6 (omega arith), refl, tt))

last_2 : IsLast graph_a 2 (2 ∷ []) 6
last_2 = last_by graph_a 2 6 (2 ∷ []) (shortest_by from_2 graph_a 2 6 (2 ∷ []) refl (arc 2 6 10, refl, refl, refl) refl refl) (apart 2 6 (omega arith), refl, tt)

last_4 : IsLast graph_a 4 (5 ∷ []) 6
last_4 = last_by graph_a 4 6 (5 ∷ []) (shortest_by from_4 graph_a 4 6 (5 ∷ []) refl (arc 4 6 5, refl, refl, refl) refl refl) (apart 4 6 (omega arith), refl, tt)

last_6 : IsLast graph_a 6 [] 6
last_6 = last_by graph_a 6 6 [] (nothing 6) tt

via_1 : IsVia graph_a 1 6 1 (1 ∷ 2 ∷ [])
via_1 = record { vertex = inside 1 (omega arith) (omega arith); prefix = []; back = 1 ∷ 2 ∷ []; first = first_1; last = last_1; joined = refl }

pub via_2 : IsVia graph_a 1 6 2 (1 ∷ 2 ∷ [])
via_2 = record { vertex = inside 2 (omega arith) (omega arith); prefix = 1 ∷ []; back = 2 ∷ []; first = first_2; last = last_2; joined = refl }

pub via_4 : IsVia graph_a 1 6 4 (3 ∷ 4 ∷ 5 ∷ [])
via_4 = record { vertex = inside 4 (omega arith) (omega arith); prefix = 3 ∷ 4 ∷ []; back = 5 ∷ []; first = first_4; last = last_4; joined = refl }

via_6 : IsVia graph_a 1 6 6 (1 ∷ 2 ∷ [])
via_6 = record { vertex = inside 6 (omega arith) (omega arith); prefix = 1 ∷ 2 ∷ []; back = []; first = first_6; last = last_6; joined = refl }

-- the path through a vertex other than the optimum is 3 4 5, and the vertex 3 or 4
record Other (v : ℕ) (p : List ℕ) : Type 0 where
  path : p ≡ 3 ∷ 4 ∷ 5 ∷ []
  via : (v ≡ 3) ⊎ (v ≡ 4)

is_optimum : (v : ℕ) (p : List ℕ) → IsVia graph_a 1 6 v (1 ∷ 2 ∷ []) → IsVia graph_a 1 6 v p → p ≢ 1 ∷ 2 ∷ [] → ⊥
is_optimum v p h k other = other (IsVia-unique graph_a 1 6 v p (1 ∷ 2 ∷ []) k h)

other_via : (v : ℕ) (p : List ℕ) → IsVia graph_a 1 6 v p → p ≢ 1 ∷ 2 ∷ [] → Other v p
other_via zero p h other = absurd (omega (arith, h.vertex.first))
other_via (suc zero) p h other = absurd (is_optimum 1 p via_1 h other)
other_via (suc (suc zero)) p h other = absurd (is_optimum 2 p via_2 h other)
other_via (suc (suc (suc zero))) p h other = record { path = IsVia-unique graph_a 1 6 3 p (3 ∷ 4 ∷ 5 ∷ []) h via_3; via = inl refl }
other_via (suc (suc (suc (suc zero)))) p h other = record { path = IsVia-unique graph_a 1 6 4 p (3 ∷ 4 ∷ 5 ∷ []) h via_4; via = inr refl }
other_via (suc (suc (suc (suc (suc zero))))) p h other = no_via graph_a 1 6 5 p no_via_5 h
other_via (suc (suc (suc (suc (suc (suc zero)))))) p h other = absurd (is_optimum 6 p via_6 h other)
other_via (suc (suc (suc (suc (suc (suc (suc v))))))) p h other = absurd (omega (arith, h.vertex.last))

pub differs : ◌≢◌ {A = List ℕ} (3 ∷ 4 ∷ 5 ∷ []) (1 ∷ 2 ∷ [])
differs e = let first : 3 ≡ 1 = ap (λ (l : List ℕ). get_or l 0 0) e in apart 1 3 (omega arith) (sym first)

pub alternative_a : IsAlternative graph_a (usual 1 6) (1 ∷ 2 ∷ []) (3 ∷ 4 ∷ 5 ∷ [])
alternative_a = record { via = 3; through = via_3; other = differs; admissible = admissible_a }

least_via : (v : ℕ) → (v ≡ 3) ⊎ (v ≡ 4) → 3 ≤ v
least_via v (inl e) = omega arith
least_via v (inr e) = omega arith

pub name_a : IsName graph_a 1 6 (3 ∷ 4 ∷ 5 ∷ []) 3
name_a = record { through = via_3; least = (λ w h. least_via w (other_via w (3 ∷ 4 ∷ 5 ∷ []) h differs).via) }

dist_3 : IsDist graph_a 1 3 (Some 11)
dist_3 = dist_by from_1 graph_a 1 3 (3 ∷ []) refl (arc 1 3 11, refl, refl, refl) refl refl

dist_4 : IsDist graph_a 1 4 (Some 17)
dist_4 = dist_by from_1 graph_a 1 4 (3 ∷ 4 ∷ []) refl (arc 1 3 11, refl, refl, (arc 3 4 6, refl, refl, refl)) refl refl

-- a via is 11 or 17 from the source
reach : (v a : ℕ) → (v ≡ 3) ⊎ (v ≡ 4) → IsDist graph_a 1 v (Some a) → (11 ≤ a) × (a ≤ 17)
reach v a (inl e) h =
    let same : a ≡ 11 = IsDist-same graph_a 1 3 a 11 (subst (λ (x : ℕ). IsDist graph_a 1 x (Some a)) e h) dist_3 in
    (omega arith, omega arith)
reach v a (inr e) h =
    let same : a ≡ 17 = IsDist-same graph_a 1 4 a 17 (subst (λ (x : ℕ). IsDist graph_a 1 x (Some a)) e h) dist_4 in
    (omega arith, omega arith)

pub plateau_a : IsPlateau graph_a 1 6 (3 ∷ 4 ∷ 5 ∷ []) 6
plateau_a = record {
  start = 3;
  end = 4;
  near = 11;
  through_start = via_3;
  through_end = via_4;
  dist_start = dist_3;
  dist_end = dist_4;
  greatest = (λ v w a b h k d e.
      let low = reach v a (other_via v (3 ∷ 4 ∷ 5 ∷ []) h differs).via d in
      let high = reach w b (other_via w (3 ∷ 4 ∷ 5 ∷ []) k differs).via e in
      omega (arith, low.0, high.1));
}

pub route_is : IsRoute graph_a (usual 1 6) (1 ∷ 2 ∷ []) route_a
route_is = record {
  alternative = alternative_a;
  numbers = record { is_name = name_a; is_length = refl; is_shared = refl; is_plateau = plateau_a; is_rank = refl };
}

only : (k : ℕ) (d : Route) → k < 1 → IsRoute graph_a (usual 1 6) (1 ∷ 2 ∷ []) (get_or (route_a ∷ []) k d)
only zero d lt = route_is
only (suc k) d lt = absurd (omega arith)

pub listing_a : IsListing graph_a (usual 1 6) (1 ∷ 2 ∷ []) (route_a ∷ [])
listing_a = record {
  each = only;
  every = (λ p h. record { route = route_a; listed = (0, omega arith, refl); path = sym (other_via h.via p h.through h.other).path });
  ascending = ((λ k d lt. absurd (omega arith)), tt);
}

pub answer_a : IsAnswer graph_a (usual 1 6) plan_a
answer_a = ((first_6, refl), listing_a)

others_of : Plan → List Route
others_of NoPath = []
others_of (Found o rs) = rs

nothing_listed : Found optimum_a [] ≡ plan_a → ⊥
unfolding others_of
nothing_listed e = let long : 0 ≡ 1 = ap (λ (p : Plan). length (others_of p)) e in apart 0 1 (omega arith) long

-- the optimum alone is no answer, and neither is the route listed twice
pub not_optimum_alone : IsAnswer graph_a (usual 1 6) (Found optimum_a []) → ⊥
not_optimum_alone h = nothing_listed (answer_is_one_lem graph_a (usual 1 6) (Found optimum_a []) plan_a h answer_a)

twice : Found optimum_a (route_a ∷ route_a ∷ []) ≡ plan_a → ⊥
unfolding others_of
twice e = let long : 2 ≡ 1 = ap (λ (p : Plan). length (others_of p)) e in apart 1 2 (omega arith) (sym long)

pub not_twice : IsAnswer graph_a (usual 1 6) (Found optimum_a (route_a ∷ route_a ∷ [])) → ⊥
not_twice h = twice (answer_is_one_lem graph_a (usual 1 6) (Found optimum_a (route_a ∷ route_a ∷ [])) plan_a h answer_a)
