-- A walk along least tight arcs is canonical.
use Rattle.std.proofs.Common.{◌≡◌, ℕ, ◌+◌, ◌<◌, ◌≤◌, List, [], ◌∷◌, Some, refl, sym, ap, ◌∙◌, subst, arith, inl, inr, ⊎_elim}
use Rattle.std.proofs.lemmas.Bool.{cases_lt}
use Rattle.road_model.specs.declared.rows.ArcRow.{ArcRow}
use Rattle.road_model.specs.Graph.{Graph, arc_at, length_at, row_length, IsGraph}
use Rattle.road_model.specs.Walk.{walk_length}
use Rattle.road_model.specs.Dist.{IsDist, IsShortest}
use Rattle.road_model.specs.Canonical.{LexLe, IsLast}
use Rattle.canonical_trees.specs.Tight.{IsTight, IsLeastTight}
use Rattle.road_model.proofs.Walks.{IsArc-at}
use Rattle.road_model.proofs.Dists.{IsDist-same, dist_of_shortest}

-- a shortest walk begins with a tight arc, and goes on by a shortest walk
pub record Begins (g : Graph) (t v b : ℕ) (q : List ℕ) : Type 0 where
  pub row : ArcRow
  pub tight : IsTight g t v b row (walk_length g q)
  pub rest : IsShortest g row.head q t

pub begins : (g : Graph) (t v b : ℕ) (q : List ℕ) → IsShortest g v (b ∷ q) t → Begins g t v b q
begins g t v b q h =
    let row = h.walk.0 in
    let long : length_at g b ≡ row.length = ap row_length h.walk.1 in
    let rest : IsShortest g row.head q t =
    record {
      walk = h.walk.3;
      least = (λ x w.
          let other : walk_length g (b ∷ q) ≤ walk_length g (b ∷ x) = h.least (b ∷ x) (row, h.walk.1, h.walk.2, w) in
          omega arith);
    } in
    let whole : IsDist g v t (Some (row.length + walk_length g q)) =
    (record { path = b ∷ q; walk = h.walk; long = omega arith }, (λ x w. let other : walk_length g (b ∷ q) ≤ walk_length g x = h.least x w in omega arith)) in
    record {
      row = row;
      tight = record { is = h.walk.1; tail = h.walk.2; beyond = dist_of_shortest g row.head t q rest; whole = whole };
      rest = rest;
    }

pub IsTight-shortest : (g : Graph) (t v a : ℕ) (r : ArcRow) (near : ℕ) (p : List ℕ) → IsTight g t v a r near → IsShortest g r.head p t → IsShortest g v (a ∷ p) t
IsTight-shortest g t v a r near p h k =
    let same : walk_length g p ≡ near = IsDist-same g r.head t (walk_length g p) near (dist_of_shortest g r.head t p k) h.beyond in
    let long : length_at g a ≡ r.length = ap row_length h.is in
    record {
      walk = (r, h.is, h.tail, k.walk);
      least = (λ q w. omega (arith, h.whole.1 q w));
    }

-- the least tight arc, and then the canonical walk from its head, is the canonical walk
LexLe-cons : (g : Graph) (t v a : ℕ) (r : ArcRow) (near : ℕ) (p : List ℕ) → IsGraph g → IsLeastTight g t v a r near → IsLast g r.head p t → (q : List ℕ) → IsShortest g v q t → LexLe (a ∷ p) q
LexLe-cons g t v a r near p sound h k [] short =
    let one : 1 ≤ r.length = (IsArc-at g a r sound h.tight.is).positive in
    let low : r.length + near ≤ 0 = h.tight.whole.1 [] short.walk in
    absurd (omega arith)
LexLe-cons g t v a r near p sound h k (b ∷ q) short =
    let other = begins g t v b q short in
    let low : a ≤ b = h.least b other.row (walk_length g q) other.tight in
    ⊎_elim
    (λ (lt : a < b). inl lt)
    (λ (ge : b ≤ a).
    let same : a ≡ b = omega arith in
    let at_b : arc_at g b ≡ Some r = subst (λ (n : ℕ). arc_at g n ≡ Some r) same h.tight.is in
    let rows : Some other.row ≡ Some r = sym other.tight.is ∙ at_b in
    let row : other.row ≡ r = cc in
    let short_rest : IsShortest g r.head q t = subst (λ (x : ArcRow). IsShortest g x.head q t) row other.rest in
    inr (same, k.least q short_rest))
    (cases_lt a b)

pub IsLast-cons : (g : Graph) (t v a : ℕ) (r : ArcRow) (near : ℕ) (p : List ℕ) → IsGraph g → IsLeastTight g t v a r near → IsLast g r.head p t → IsLast g v (a ∷ p) t
IsLast-cons g t v a r near p sound h k =
    record {
      shortest = IsTight-shortest g t v a r near p h.tight k.shortest;
      least = LexLe-cons g t v a r near p sound h k;
    }

pub IsLast-nil : (g : Graph) (t : ℕ) → IsLast g t [] t
IsLast-nil g t = record { shortest = record { walk = refl; least = (λ q w. omega arith) }; least = (λ q w. tt) }
