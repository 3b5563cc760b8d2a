-- The parts of a canonical walk are canonical.
use Rattle.std.proofs.Common.{◌≡◌, ℕ, ◌≤◌, List, [], ◌∷◌, ◌++◌, reverse, Option, Some, None, refl, subst, arith, inl, inr}
use Rattle.std.proofs.lemmas.List.{reverse-append}
use Rattle.road_model.specs.Graph.{Graph}
use Rattle.road_model.specs.Walk.{IsWalk, walk_length}
use Rattle.road_model.specs.Dist.{IsShortest}
use Rattle.road_model.specs.Canonical.{LexLe, IsFirst, IsLast}
use Rattle.road_model.proofs.Walks.{Cut, cut, IsWalk-append, IsWalk-end, walk_length-append}
use Rattle.road_model.proofs.Dists.{IsDist-same, dist_of_shortest, prefix_of_shortest, back_of_shortest}
use Rattle.tree_search.specs.Ball.{IsWithin}
use Rattle.canonical_trees.specs.Trees.{IsInside}

LexLe-strip : (x p q : List ℕ) → LexLe (x ++ p) (x ++ q) → LexLe p q
LexLe-strip [] p q h = h
LexLe-strip (a ∷ x) p q (inl lt) = absurd (omega arith)
LexLe-strip (a ∷ x) p q (inr same) = LexLe-strip x p q same.1

-- what a walk goes on with, where it is known to which vertex its first part leads
pub rest_of_walk : (g : Graph) (a b : List ℕ) (u v w : ℕ) → IsWalk g u (a ++ b) w → IsWalk g u a v → IsWalk g v b w
rest_of_walk g a b u v w whole prefix =
    let parts : Cut g u a b w = cut g a b u w whole in
    subst (λ (x : ℕ). IsWalk g x b w) (IsWalk-end g a u parts.middle v parts.prefix prefix) parts.back

-- a walk that is no longer than a shortest one is shortest
as_short : (g : Graph) (u v : ℕ) (p q : List ℕ) → IsShortest g u p v → IsWalk g u q v → walk_length g q ≤ walk_length g p → IsShortest g u q v
as_short g u v p q h walk le = record { walk = walk; least = (λ x other. omega (arith, h.least x other)) }

pub back_of_last : (g : Graph) (a b : List ℕ) (u v t : ℕ) → IsLast g u (a ++ b) t → IsWalk g u a v → IsLast g v b t
back_of_last g a b u v t h prefix =
    let back : IsWalk g v b t = rest_of_walk g a b u v t h.shortest.walk prefix in
    record {
      shortest = back_of_shortest g a b u v t h.shortest prefix back;
      least = (λ q other.
          let le : walk_length g q ≤ walk_length g b = other.least b back in
          LexLe-strip a b q (h.least (a ++ q) (as_short g u t (a ++ b) (a ++ q) h.shortest (IsWalk-append g a q u v t prefix other.walk)
          (omega (arith, walk_length-append g a b, walk_length-append g a q)))));
    }

pub prefix_of_first : (g : Graph) (a b : List ℕ) (s v w : ℕ) → IsFirst g s (a ++ b) w → IsWalk g s a v → IsFirst g s a v
prefix_of_first g a b s v w h prefix =
    let back : IsWalk g v b w = rest_of_walk g a b s v w h.shortest.walk prefix in
    record {
      shortest = prefix_of_shortest g a b s v w h.shortest prefix back;
      least = (λ q other.
          let le : walk_length g q ≤ walk_length g a = other.least a prefix in
          let whole : LexLe (reverse (a ++ b)) (reverse (q ++ b)) = h.least (q ++ b) (as_short g s w (a ++ b) (q ++ b) h.shortest (IsWalk-append g q b s v w other.walk back)
          (omega (arith, walk_length-append g a b, walk_length-append g q b))) in
          LexLe-strip (reverse b) (reverse a) (reverse q)
          (subst (λ (x : List ℕ). LexLe x (reverse b ++ reverse q)) (reverse-append a b)
          (subst (λ (x : List ℕ). LexLe (reverse (a ++ b)) x) (reverse-append q b) whole)));
    }

pub IsFirst-nil : (g : Graph) (s : ℕ) → IsFirst g s [] s
IsFirst-nil g s = record { shortest = record { walk = refl; least = (λ q w. omega arith) }; least = (λ q w. tt) }

pub within_less : (radius : Option ℕ) (a b : ℕ) → a ≤ b → IsWithin radius b → IsWithin radius a
within_less None a b le h = tt
within_less (Some r) a b le h = omega arith

-- a vertex before one that is inside, on the canonical path to it, is inside
pub inside_before : (g : Graph) (radius : Option ℕ) (s v w : ℕ) (a b : List ℕ) → IsFirst g s (a ++ b) w → IsFirst g s a v → IsInside g radius s w → IsInside g radius s v
inside_before g radius s v w a b whole part inside =
    let far : walk_length g (a ++ b) ≡ inside.distance = IsDist-same g s w (walk_length g (a ++ b)) inside.distance (dist_of_shortest g s w (a ++ b) whole.shortest) inside.dist in
    record {
      distance = walk_length g a;
      dist = dist_of_shortest g s v a part.shortest;
      within = within_less radius (walk_length g a) inside.distance (omega (arith, walk_length-append g a b)) inside.within;
    }

pub inside_after : (g : Graph) (radius : Option ℕ) (v w t : ℕ) (a b : List ℕ) → IsLast g v (a ++ b) t → IsLast g w b t → IsInside g radius v t → IsInside g radius w t
inside_after g radius v w t a b whole part inside =
    let far : walk_length g (a ++ b) ≡ inside.distance = IsDist-same g v t (walk_length g (a ++ b)) inside.distance (dist_of_shortest g v t (a ++ b) whole.shortest) inside.dist in
    record {
      distance = walk_length g b;
      dist = dist_of_shortest g w t b part.shortest;
      within = within_less radius (walk_length g b) inside.distance (omega (arith, walk_length-append g a b)) inside.within;
    }
