-- The path through a vertex, from the two distances that it is made of.
use Rattle.std.proofs.Common.{◌≡◌, ℕ, ◌+◌, ◌^◌, ◌<◌, ◌≤◌, ◌⊎◌, ◌++◌, List, Option, Some, None, IfSome, refl, sym, ap, ◌∙◌, subst, arith, ⊎_elim}
use Rattle.road_model.specs.Graph.{Graph, IsVertex}
use Rattle.road_model.specs.File.{IsWithinLimits}
use Rattle.road_model.specs.Walk.{walk_length}
use Rattle.road_model.specs.Dist.{IsDist, HaveSameDist}
use Rattle.road_model.specs.Alternatives.{IsVia, IsName}
use Rattle.forward_star.proofs.Bound.{dists_below}
use Rattle.canonical_trees.specs.Trees.{Trees, IsOutside}
use Rattle.canonical_trees.proofs.Balls.{dist_below, apart}
use Rattle.via_search.specs.declared.candidates.Candidate.{Candidate}
use Rattle.via_search.specs.Candidates.{IsCandidate, FindsCandidate}
use Rattle.via_search.specs.Settings.{Givens, trees_of}
use Rattle.plateau_finder.specs.Plateaus.{IsInBoth}
use Rattle.via_search.specs.Through.{NamesPath, HasPathThrough, IsLengthThrough}
use Rattle.canonical_trees.proofs.ThroughVertex.{via_parts, via_length}
use Rattle.road_model.proofs.Dists.{dist_of_shortest}
use Rattle.road_model.proofs.CanonicalWalks.{IsVia-unique}
use Rattle.canonical_trees.proofs.CanonicalExists.{first_of_dist, last_of_dist}

-- an oracle's distance is one of the star, and it isn't long
pub dist_here : (g o : Graph) (u v : ℕ) (d : Option ℕ) → HaveSameDist g o → IsDist o u v d → IsDist g u v d
dist_here g o u v d same h = (same.dist u v d).1 h

pub dist_short : (g : Graph) (u v : ℕ) (d : Option ℕ) → IsWithinLimits g → IsDist g u v d → IfSome d (λ k. k < 2 ^ 57)
dist_short g u v None limits h = tt
dist_short g u v (Some k) limits h = dist_below g u v k (2 ^ 57) (dists_below g limits) h

pub path_through : (g : Graph) (s t v a b : ℕ) (d e : Option ℕ) → IsWithinLimits g → IsVertex g.vertices v → IsDist g s v d → d ≡ Some a → IsDist g v t e → e ≡ Some b → HasPathThrough g s t v (a + b)
path_through g s t v a b d e limits inside near_dist is_near left_dist is_left =
    let near : IsDist g s v (Some a) = subst (λ (x : Option ℕ). IsDist g s v x) is_near near_dist in
    let left : IsDist g v t (Some b) = subst (λ (x : Option ℕ). IsDist g v t x) is_left left_dist in
    let prefix = first_of_dist g s v a limits.is_graph near in
    let back = last_of_dist g v t b limits.is_graph left in
    let through : IsVia g s t v (prefix.path ++ back.path) = record {
      vertex = inside;
      prefix = prefix.path;
      back = back.path;
      first = prefix.first;
      last = back.last;
      joined = refl;
    } in
    record {
      path = prefix.path ++ back.path;
      through = through;
      is_length = sym (via_length g s t v a b (prefix.path ++ back.path) through near left);
    }

-- the candidate of the vertex is as long
pub candidate_long : (g : Graph) (s t v l : ℕ) (c : Candidate) → HasPathThrough g s t v l → c.via ≡ v → IsCandidate g s t c → c.length ≡ l
candidate_long g s t v l c h is candidate =
    let own : IsVia g s t v c.arcs = subst (λ (x : ℕ). IsVia g s t x c.arcs) is candidate.through in
    let same : c.arcs ≡ h.path = IsVia-unique g s t v c.arcs h.path own h.through in
    candidate.is_length ∙ (ap (λ (p : List ℕ). walk_length g p) same ∙ sym h.is_length)

-- what the trees of a setting gave, told of what a clause sees of it
pub found_in : (ts : Trees) (x y : Givens) (v : ℕ) (o : Option Candidate) → ts ≡ trees_of x → x ≡ y → FindsCandidate ts.graph ts.source ts.target x.reach v o → FindsCandidate y.graph y.query.from y.query.to y.reach v o
found_in ts x y v o trees same h =
    subst (λ (z : Givens). FindsCandidate z.graph z.query.from z.query.to z.reach v o) same
    (subst (λ (zs : Trees). FindsCandidate zs.graph zs.source zs.target x.reach v o) trees h)

pub found_some : (g : Graph) (s t l v : ℕ) (o : Option Candidate) (c : Candidate) → FindsCandidate g s t l v o → o ≡ Some c → (c.via ≡ v) × IsCandidate g s t c × (walk_length g c.arcs ≤ l)
found_some g s t l v o c h is = subst (λ (x : Option Candidate). FindsCandidate g s t l v x) is h

pub through_some : (g : Graph) (s t v l : ℕ) (o : Option ℕ) → IsLengthThrough g s t v o → o ≡ Some l → HasPathThrough g s t v l
through_some g s t v l o h is = subst (λ (x : Option ℕ). IsLengthThrough g s t v x) is h

-- within a radius as far as the path is long, its vertex is in both balls, and named
pub inside_through : (g : Graph) (s t v l : ℕ) → HasPathThrough g s t v l → IsInBoth (record { graph = g; source = s; target = t; radius = Some l }) v
inside_through g s t v l h =
    let via = h.through in
    let parts = via_parts g s t v h.path h.through in
    let long : l ≡ walk_length g h.path = h.is_length in
    record {
      from = record { distance = walk_length g via.prefix; dist = dist_of_shortest g s v via.prefix via.first.shortest; within = omega (arith, parts, long) };
      to = record { distance = walk_length g via.back; dist = dist_of_shortest g v t via.back via.last.shortest; within = omega (arith, parts, long) };
    }

pub not_outside : (ts : Trees) (v : ℕ) → IsInBoth ts v → IsOutside ts.graph ts.radius ts.source v ⊎ IsOutside ts.graph ts.radius v ts.target → ⊥
not_outside ts v inside outside =
    ⊎_elim
    (λ (from : IsOutside ts.graph ts.radius ts.source v). apart ts.graph ts.radius ts.source v inside.from from)
    (λ (to : IsOutside ts.graph ts.radius v ts.target). apart ts.graph ts.radius v ts.target inside.to to)
    outside

pub named_through : (g : Graph) (s t v l n : ℕ) (c : Candidate) → c.via ≡ v → IsCandidate g s t c → walk_length g c.arcs ≤ l → NamesPath (record { graph = g; source = s; target = t; radius = Some l }) v n → IsName g s t c.arcs n
named_through g s t v l n c same own within names =
    names c.arcs (subst (λ (x : ℕ). IsVia g s t x c.arcs) same own.through) within

-- there is a candidate of a vertex that a path within the bound leads through
pub not_through : (g : Graph) (s t v l : ℕ) (o : Option Candidate) → FindsCandidate g s t l v o → o ≡ None → HasPathThrough g s t v l → ⊥
not_through g s t v l o h none through =
    let far : (p : List ℕ) → IsVia g s t v p → l < walk_length g p = subst (λ (x : Option Candidate). FindsCandidate g s t l v x) none h in
    omega (arith, far through.path through.through, through.is_length)
