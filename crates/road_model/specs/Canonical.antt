-- The canonical one among the shortest walks.
--   LexLe p q          p comes before q in dictionary order, or is q, or begins q
--   IsFirst g s p v    of the shortest walks from s to v, the one whose arc numbers, read from its end
--                      backwards, are least
--   IsLast g v p t     of the shortest walks from v to t, the one whose arc numbers, read forwards, are least
--   IsOptimum g s t o  Some: the first kind from s to t, with its length; None: there is no walk
-- Lengths are positive, so no list among these begins another one.
use Rattle.std.specs.Prelude.{◌≡◌, ◌<◌, ◌⊎◌, ℕ, List, [], ◌∷◌, reverse, Option, Some, None}
use Rattle.road_model.specs.declared.answer.Optimum.{Optimum}
use Rattle.road_model.specs.Graph.{Graph}
use Rattle.road_model.specs.Walk.{walk_length}
use Rattle.road_model.specs.Dist.{NoWalk, IsShortest}

abbrev pub LexLe : List ℕ → List ℕ → Type 0
LexLe [] q = Unit {0}
LexLe (a ∷ p) [] = ⊥
LexLe (a ∷ p) (b ∷ q) = (a < b) ⊎ ((a ≡ b) × LexLe p q)

pub record IsFirst (g : Graph) (s : ℕ) (p : List ℕ) (v : ℕ) : Type 0 where
  pub shortest : IsShortest g s p v
  pub least : (q : List ℕ) → IsShortest g s q v → LexLe (reverse p) (reverse q)

pub record IsLast (g : Graph) (v : ℕ) (p : List ℕ) (t : ℕ) : Type 0 where
  pub shortest : IsShortest g v p t
  pub least : (q : List ℕ) → IsShortest g v q t → LexLe p q

abbrev pub IsOptimum : Graph → ℕ → ℕ → Option Optimum → Type 0
IsOptimum g s t None = NoWalk g s t
IsOptimum g s t (Some o) = IsFirst g s o.arcs t × (o.length ≡ walk_length g o.arcs)
