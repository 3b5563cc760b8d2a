-- The path through a vertex is one walk, made of two parts.
use Rattle.std.proofs.Common.{◌≡◌, ℕ, ◌+◌, List, Some, sym, ap, ◌∙◌, subst, arith}
use Rattle.road_model.specs.Graph.{Graph}
use Rattle.road_model.specs.Walk.{IsWalk, walk_length}
use Rattle.road_model.specs.Dist.{IsDist}
use Rattle.road_model.specs.Alternatives.{IsVia}
use Rattle.road_model.proofs.Walks.{IsWalk-append, walk_length-append}
use Rattle.road_model.proofs.Dists.{IsDist-same, dist_of_shortest}

pub via_walk : (g : Graph) (s t v : ℕ) (p : List ℕ) → IsVia g s t v p → IsWalk g s p t
via_walk g s t v p h =
    subst (λ (x : List ℕ). IsWalk g s x t) (sym h.joined)
    (IsWalk-append g h.prefix h.back s v t h.first.shortest.walk h.last.shortest.walk)

pub via_parts : (g : Graph) (s t v : ℕ) (p : List ℕ) (h : IsVia g s t v p) → walk_length g p ≡ walk_length g h.prefix + walk_length g h.back
via_parts g s t v p h =
    ap (λ (x : List ℕ). walk_length g x) h.joined ∙ walk_length-append g h.prefix h.back

pub near_of_via : (g : Graph) (s t v a : ℕ) (p : List ℕ) (h : IsVia g s t v p) → IsDist g s v (Some a) → walk_length g h.prefix ≡ a
near_of_via g s t v a p h d =
    IsDist-same g s v (walk_length g h.prefix) a (dist_of_shortest g s v h.prefix h.first.shortest) d

pub via_length : (g : Graph) (s t v a b : ℕ) (p : List ℕ) → IsVia g s t v p → IsDist g s v (Some a) → IsDist g v t (Some b) → walk_length g p ≡ a + b
via_length g s t v a b p h d e =
    let back : walk_length g h.back ≡ b = IsDist-same g v t (walk_length g h.back) b (dist_of_shortest g v t h.back h.last.shortest) e in
    omega (arith, via_parts g s t v p h, near_of_via g s t v a p h d)
