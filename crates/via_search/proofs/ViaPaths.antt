-- The path through a vertex, and the two lengths that it is made of.
use Rattle.std.proofs.Common.{◌≡◌, ℕ, ◌+◌, ◌*◌, ◌<◌, ◌≤◌, ◌^◌, ◌⊎◌, List, [], ◌∷◌, length, Option, Some, None, sym, subst, arith, ⊎_elim}
use Rattle.std.proofs.lemmas.Bool.{cases_lt}
use Rattle.road_model.specs.declared.answer.Query.{Query}
use Rattle.road_model.specs.Graph.{Graph}
use Rattle.road_model.specs.Walk.{IsWalk, walk_length}
use Rattle.road_model.specs.Dist.{IsDist}
use Rattle.road_model.specs.Canonical.{IsFirst}
use Rattle.road_model.specs.Places.{trail_of, between}
use Rattle.road_model.specs.Alternatives.{IsVia, IsAdmissible}
use Rattle.road_model.proofs.Dists.{dist_of_shortest}
use Rattle.road_model.proofs.Parts.{length-places, whole_sum, whole_dist}
use Rattle.canonical_trees.specs.Trees.{Trees, IsInside, IsOutside, IsViaPath}
use Rattle.canonical_trees.proofs.ThroughVertex.{via_parts, via_length}
use Rattle.tree_search.specs.Ball.{IsWithin, IsBeyond}
use Rattle.via_search.specs.Candidates.{IsCandidate, IsNear}

-- a path through a vertex outside a ball of the bound is beyond it
pub beyond_from : (g : Graph) (s t v bound : ℕ) (radius : Option ℕ) (p : List ℕ) → radius ≡ Some bound → IsOutside g radius s v → IsVia g s t v p → bound < walk_length g p
beyond_from g s t v bound radius p is out h =
    let far : bound < walk_length g h.prefix = subst (λ (r : Option ℕ). IsBeyond r (walk_length g h.prefix)) is (out h.prefix h.first.shortest.walk) in
    omega (arith, via_parts g s t v p h)

pub beyond_to : (g : Graph) (s t v bound : ℕ) (radius : Option ℕ) (p : List ℕ) → radius ≡ Some bound → IsOutside g radius v t → IsVia g s t v p → bound < walk_length g p
beyond_to g s t v bound radius p is out h =
    let far : bound < walk_length g h.back = subst (λ (r : Option ℕ). IsBeyond r (walk_length g h.back)) is (out h.back h.last.shortest.walk) in
    omega (arith, via_parts g s t v p h)

pub beyond_both : (ts : Trees) (v bound : ℕ) (o : Option (List ℕ)) (p : List ℕ) → ts.radius ≡ Some bound → IsViaPath ts v o → o ≡ None → IsVia ts.graph ts.source ts.target v p → bound < walk_length ts.graph p
beyond_both ts v bound o p is h none via =
    let out : IsOutside ts.graph ts.radius ts.source v ⊎ IsOutside ts.graph ts.radius v ts.target = subst (λ (x : Option (List ℕ)). IsViaPath ts v x) none h in
    ⊎_elim
    (λ (from : IsOutside ts.graph ts.radius ts.source v). beyond_from ts.graph ts.source ts.target v bound ts.radius p is from via)
    (λ (to : IsOutside ts.graph ts.radius v ts.target). beyond_to ts.graph ts.source ts.target v bound ts.radius p is to via)
    out

pub via_found : (ts : Trees) (v : ℕ) (o : Option (List ℕ)) (p : List ℕ) → IsViaPath ts v o → o ≡ Some p → IsVia ts.graph ts.source ts.target v p
via_found ts v o p h is =
    let both : IsVia ts.graph ts.source ts.target v p × IsInside ts.graph ts.radius ts.source v × IsInside ts.graph ts.radius v ts.target = subst (λ (x : Option (List ℕ)). IsViaPath ts v x) is h in
    both.0

pub candidate_made : (g : Graph) (s t v a b : ℕ) (p : List ℕ) → IsVia g s t v p → IsDist g s v (Some a) → IsDist g v t (Some b) → a < 2 ^ 57 → b < 2 ^ 57 → IsCandidate g s t (record { via = v; near = a; length = a + b; arcs = p })
candidate_made g s t v a b p h d e low high =
    record {
      through = h;
      dist = d;
      is_length = sym (via_length g s t v a b p h d e);
      short = omega arith;
    }

-- a vertex of a near path is inside the ball
pub inside_of_via : (g : Graph) (s t v bound : ℕ) (radius : Option ℕ) (p : List ℕ) → radius ≡ Some bound → IsVia g s t v p → walk_length g p ≤ bound → IsInside g radius s v
inside_of_via g s t v bound radius p is h le =
    let near : walk_length g h.prefix ≤ bound = omega (arith, via_parts g s t v p h) in
    record {
      distance = walk_length g h.prefix;
      dist = dist_of_shortest g s v h.prefix h.first.shortest;
      within = subst (λ (r : Option ℕ). IsWithin r (walk_length g h.prefix)) (sym is) near;
    }

-- so an admissible path is near: a walk that is too long fails the stretch as a whole
pub near_of_admissible : (g : Graph) (q : Query) (o p : List ℕ) → IsFirst g q.from o q.to → IsWalk g q.from p q.to → IsAdmissible g q o p → IsNear g q (walk_length g o) p
near_of_admissible g q o [] best walk h = omega arith
near_of_admissible g q o (a ∷ p) best walk h =
    let whole : between (trail_of g q.from (a ∷ p)) 0 (length (a ∷ p)) ≡ walk_length g (a ∷ p) = whole_sum g q.from (a ∷ p) in
    ⊎_elim
    (λ (long : (q.epsilon.den + q.epsilon.num) * walk_length g o < walk_length g (a ∷ p) * q.epsilon.den).
    absurd (h.bounded 0 (length (a ∷ p)) (walk_length g o) (record {
      rise = omega arith;
      inside = omega (arith, length-places g q.from (a ∷ p));
      dist = whole_dist g q.from q.to (walk_length g o) (a ∷ p) walk (dist_of_shortest g q.from q.to o best.shortest);
      above = subst (λ (n : ℕ). (q.epsilon.den + q.epsilon.num) * walk_length g o < n * q.epsilon.den) (sym whole) long;
    })))
    (λ (short : walk_length g (a ∷ p) * q.epsilon.den ≤ (q.epsilon.den + q.epsilon.num) * walk_length g o). short)
    (cases_lt ((q.epsilon.den + q.epsilon.num) * walk_length g o) (walk_length g (a ∷ p) * q.epsilon.den))
