-- Distances and shortest walks.
use Rattle.std.proofs.Common.{◌≡◌, ℕ, ◌+◌, ◌≤◌, List, [], ◌++◌, Option, Some, None, refl, ap, arith}
use Rattle.road_model.specs.Graph.{Graph}
use Rattle.road_model.specs.Walk.{IsWalk, walk_length}
use Rattle.road_model.specs.Dist.{IsDist, IsShortest}
use Rattle.road_model.proofs.Walks.{IsWalk-append, walk_length-append}

pub IsDist-unique : (g : Graph) (u v : ℕ) (a b : Option ℕ) → IsDist g u v a → IsDist g u v b → a ≡ b
IsDist-unique g u v None None h k = refl
IsDist-unique g u v None (Some b) h k = absurd (h k.0.path k.0.walk)
IsDist-unique g u v (Some a) None h k = absurd (k h.0.path h.0.walk)
IsDist-unique g u v (Some a) (Some b) h k =
    let low : a ≤ b = omega (arith, h.1 k.0.path k.0.walk, k.0.long) in
    let high : b ≤ a = omega (arith, k.1 h.0.path h.0.walk, h.0.long) in
    let same : a ≡ b = omega arith in
    ap (λ (n : ℕ). Some n) same

pub IsDist-same : (g : Graph) (u v a b : ℕ) → IsDist g u v (Some a) → IsDist g u v (Some b) → a ≡ b
IsDist-same g u v a b h k =
    omega (arith, h.1 k.0.path k.0.walk, k.0.long, k.1 h.0.path h.0.walk, h.0.long)

pub dist_of_shortest : (g : Graph) (u v : ℕ) (p : List ℕ) → IsShortest g u p v → IsDist g u v (Some (walk_length g p))
dist_of_shortest g u v p h = (record { path = p; walk = h.walk; long = refl }, h.least)

-- a walk that is as long as the distance is shortest
pub shortest_of_dist : (g : Graph) (u v k : ℕ) (p : List ℕ) → IsDist g u v (Some k) → IsWalk g u p v → walk_length g p ≡ k → IsShortest g u p v
shortest_of_dist g u v k p h walk is =
    record { walk = walk; least = (λ q w. omega (arith, h.1 q w)) }

pub IsDist-itself : (g : Graph) (u : ℕ) → IsDist g u u (Some 0)
IsDist-itself g u = (record { path = []; walk = refl; long = refl }, (λ q w. omega arith))

-- the triangle inequality
pub triangle : (g : Graph) (u v w a b c : ℕ) → IsDist g u v (Some a) → IsDist g v w (Some b) → IsDist g u w (Some c) → c ≤ a + b
triangle g u v w a b c h k l =
    let joined : c ≤ walk_length g (h.0.path ++ k.0.path) = l.1 (h.0.path ++ k.0.path) (IsWalk-append g h.0.path k.0.path u v w h.0.walk k.0.walk) in
    omega (arith, walk_length-append g h.0.path k.0.path, h.0.long, k.0.long)

-- the two parts of a shortest walk are shortest
pub prefix_of_shortest : (g : Graph) (p q : List ℕ) (u v w : ℕ) → IsShortest g u (p ++ q) w → IsWalk g u p v → IsWalk g v q w → IsShortest g u p v
prefix_of_shortest g p q u v w h prefix back =
    record {
      walk = prefix;
      least = (λ x walk.
          let other : walk_length g (p ++ q) ≤ walk_length g (x ++ q) = h.least (x ++ q) (IsWalk-append g x q u v w walk back) in
          omega (arith, walk_length-append g p q, walk_length-append g x q));
    }

pub back_of_shortest : (g : Graph) (p q : List ℕ) (u v w : ℕ) → IsShortest g u (p ++ q) w → IsWalk g u p v → IsWalk g v q w → IsShortest g v q w
back_of_shortest g p q u v w h prefix back =
    record {
      walk = back;
      least = (λ x walk.
          let other : walk_length g (p ++ q) ≤ walk_length g (p ++ x) = h.least (p ++ x) (IsWalk-append g p x u v w prefix walk) in
          omega (arith, walk_length-append g p q, walk_length-append g p x));
    }
