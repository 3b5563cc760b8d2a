-- Plateaus: the vertices inside both balls of a pair of trees, parted by the walk that leads through them.
--   IsInBoth ts v          v is inside the ball from the source and inside the one to the target
--   IsThrough ts v p       p is the walk through v
--   IsPlateauOf ts p c     p is the walk through c's first, last and least vertex, which are in both balls; each
--                          vertex in both that p is the walk through is at a distance from the source from that of
--                          `first` to that of `last`, which are c's length apart, and isn't below `least`; where p
--                          is within the radius, that is p's name, and that length is p's plateau
--   IsListedPlateau ts bound c    c is the plateau of some walk, which is within the bound
--   HasPlateau ts p cs     the plateau of p is among these
--   ArePlateaus ts bound cs   those of the walks within the bound through the vertices in both balls, each once,
--                          by rising least vertex; where the bound is None, those of all walks
--   IsPlateauAt ts cs v c  c is the plateau of the walk through v, which is in both balls, and is one of these
--   FindsPlateau ts cs v o   Some: the plateau of the walk through v, one of these; None: v is outside a ball
--   IsOwnPlateau ts v c    c is the plateau of the walk through v, which is in both balls
--   IsPlateauThrough ts v o  Some: the plateau of the walk through v; None: v is outside a ball
-- Of a walk that is longer than the radius, some vias may be outside a ball: nothing is said of those.
use Rattle.std.specs.Prelude.{◌≡◌, ◌<◌, ◌≤◌, ◌⊎◌, ◌+◌, ℕ, List, Option, Some, None, All, AllPairs, Contains}
use Rattle.road_model.specs.Walk.{walk_length}
use Rattle.road_model.specs.Dist.{IsDist}
use Rattle.road_model.specs.Alternatives.{IsVia, IsName, IsPlateau}
use Rattle.tree_search.specs.Ball.{IsWithin}
use Rattle.canonical_trees.specs.Trees.{Trees, IsInside, IsOutside}
use Rattle.plateau_finder.specs.declared.plateau.Plateau.{Plateau}

pub record IsInBoth (ts : Trees) (v : ℕ) : Type 0 where
  pub from : IsInside ts.graph ts.radius ts.source v
  pub to : IsInside ts.graph ts.radius v ts.target

abbrev pub IsThrough : Trees → ℕ → List ℕ → Type 0
IsThrough ts v p = IsVia ts.graph ts.source ts.target v p

pub record IsPlateauOf (ts : Trees) (p : List ℕ) (c : Plateau) : Type 0 where
  pub first : IsThrough ts c.first p
  pub last : IsThrough ts c.last p
  pub least : IsThrough ts c.least p
  pub first_inside : IsInBoth ts c.first
  pub last_inside : IsInBoth ts c.last
  pub least_inside : IsInBoth ts c.least
  pub between : (v a b d : ℕ) → IsThrough ts v p → IsInBoth ts v → IsDist ts.graph ts.source c.first (Some a) → IsDist ts.graph ts.source v (Some b) → IsDist ts.graph ts.source c.last (Some d) → (a ≤ b) × (b ≤ d)
  pub lowest : (v : ℕ) → IsThrough ts v p → IsInBoth ts v → c.least ≤ v
  pub long : (a d : ℕ) → IsDist ts.graph ts.source c.first (Some a) → IsDist ts.graph ts.source c.last (Some d) → d ≡ a + c.length
  pub is_name : IsWithin ts.radius (walk_length ts.graph p) → IsName ts.graph ts.source ts.target p c.least
  pub is_plateau : IsWithin ts.radius (walk_length ts.graph p) → IsPlateau ts.graph ts.source ts.target p c.length

pub record IsListedPlateau (ts : Trees) (bound : Option ℕ) (c : Plateau) : Type 0 where
  pub walk : List ℕ
  pub within : IsWithin bound (walk_length ts.graph walk)
  pub is : IsPlateauOf ts walk c

pub record HasPlateau (ts : Trees) (p : List ℕ) (cs : List Plateau) : Type 0 where
  pub plateau : Plateau
  pub listed : Contains cs plateau
  pub is : IsPlateauOf ts p plateau

pub record ArePlateaus (ts : Trees) (bound : Option ℕ) (cs : List Plateau) : Type 0 where
  pub each : All (IsListedPlateau ts bound) cs
  pub every : (v : ℕ) (p : List ℕ) → IsThrough ts v p → IsInBoth ts v → IsWithin bound (walk_length ts.graph p) → HasPlateau ts p cs
  pub rising : AllPairs (λ earlier later. earlier.least < later.least) cs

pub record IsPlateauAt (ts : Trees) (cs : List Plateau) (v : ℕ) (c : Plateau) : Type 0 where
  pub listed : Contains cs c
  pub inside : IsInBoth ts v
  pub is : (p : List ℕ) → IsThrough ts v p → IsPlateauOf ts p c

abbrev pub FindsPlateau : Trees → List Plateau → ℕ → Option Plateau → Type 0
FindsPlateau ts cs v None = IsOutside ts.graph ts.radius ts.source v ⊎ IsOutside ts.graph ts.radius v ts.target
FindsPlateau ts cs v (Some c) = IsPlateauAt ts cs v c

pub record IsOwnPlateau (ts : Trees) (v : ℕ) (c : Plateau) : Type 0 where
  pub inside : IsInBoth ts v
  pub is : (p : List ℕ) → IsThrough ts v p → IsPlateauOf ts p c

abbrev pub IsPlateauThrough : Trees → ℕ → Option Plateau → Type 0
IsPlateauThrough ts v None = IsOutside ts.graph ts.radius ts.source v ⊎ IsOutside ts.graph ts.radius v ts.target
IsPlateauThrough ts v (Some c) = IsOwnPlateau ts v c
