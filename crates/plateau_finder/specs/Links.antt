-- Links: the steps from one vertex of a plateau to the next.
--   IsLink ts u v          one arc ends the canonical path from the source to v, after u, and begins the one from u
--                          to the target, before v
--   IsLinkInside ts u v    such a link, between two vertices in both balls
--   IsNext ts u o          Some: a link leads out of u, to that vertex in both balls; None: to none
--   IsPrevious ts v o      Some: a link leads into v, from that vertex in both balls; None: from none
--   HasLinkInto ts v       such a link leads into v
--   IsChainFrom ts c       no link leads into c's first vertex, and c is the plateau of each walk through that
--   IsStart ts bound v c   c begins at v, into which no link leads, and is the plateau of a walk within the bound
--   StartsAt ts bound v o  Some: a plateau from v, of a walk within the bound; None: v is outside a ball, its walk
--                          is beyond the bound, or a link leads into it
--   IsChainBack ts v u     no link leads into u, and each walk through v leads through u
--   HasStart cs v          one of these plateaus begins at v
--   AreGathered ts bound cs   the plateaus of the walks within the bound, in any order
--   HasLeast cs v          v is the least vertex of one of these
use Rattle.std.specs.Prelude.{◌≡◌, ◌≢◌, ℕ, List, [], ◌∷◌, ◌++◌, Option, Some, None, All, AllPairs, Contains}
use Rattle.road_model.specs.Walk.{walk_length}
use Rattle.road_model.specs.Canonical.{IsFirst, IsLast}
use Rattle.tree_search.specs.Ball.{IsWithin}
use Rattle.canonical_trees.specs.Trees.{Trees}
use Rattle.plateau_finder.specs.declared.plateau.Plateau.{Plateau}
use Rattle.plateau_finder.specs.Plateaus.{IsInBoth, IsThrough, IsPlateauOf, IsListedPlateau, HasPlateau}

pub record IsLink (ts : Trees) (u v : ℕ) : Type 0 where
  pub arc : ℕ
  pub prefix : List ℕ
  pub back : List ℕ
  pub first : IsFirst ts.graph ts.source prefix u
  pub last : IsLast ts.graph u (arc ∷ back) ts.target
  pub first_on : IsFirst ts.graph ts.source (prefix ++ arc ∷ []) v
  pub last_on : IsLast ts.graph v back ts.target

pub record IsLinkInside (ts : Trees) (u v : ℕ) : Type 0 where
  pub link : IsLink ts u v
  pub tail_inside : IsInBoth ts u
  pub head_inside : IsInBoth ts v

abbrev pub IsNext : Trees → ℕ → Option ℕ → Type 0
IsNext ts u None = (v : ℕ) → IsLinkInside ts u v → ⊥
IsNext ts u (Some v) = IsLinkInside ts u v

abbrev pub IsPrevious : Trees → ℕ → Option ℕ → Type 0
IsPrevious ts v None = (u : ℕ) → IsLinkInside ts u v → ⊥
IsPrevious ts v (Some u) = IsLinkInside ts u v

pub record IsChainFrom (ts : Trees) (c : Plateau) : Type 0 where
  pub begins : IsPrevious ts c.first None
  pub is : (p : List ℕ) → IsThrough ts c.first p → IsPlateauOf ts p c

pub record HasLinkInto (ts : Trees) (v : ℕ) : Type 0 where
  pub tail : ℕ
  pub link : IsLinkInside ts tail v

pub record IsStart (ts : Trees) (bound : Option ℕ) (v : ℕ) (c : Plateau) : Type 0 where
  pub is_first : c.first ≡ v
  pub begins : IsPrevious ts c.first None
  pub listed : IsListedPlateau ts bound c

abbrev pub StartsAt : Trees → Option ℕ → ℕ → Option Plateau → Type 0
StartsAt ts bound v None = (p : List ℕ) → IsThrough ts v p → IsInBoth ts v → IsWithin bound (walk_length ts.graph p) → HasLinkInto ts v
StartsAt ts bound v (Some c) = IsStart ts bound v c

pub record IsChainBack (ts : Trees) (v first : ℕ) : Type 0 where
  pub inside : IsInBoth ts first
  pub begins : IsPrevious ts first None
  pub through : (p : List ℕ) → IsThrough ts v p → IsThrough ts first p

pub record HasStart (cs : List Plateau) (v : ℕ) : Type 0 where
  pub plateau : Plateau
  pub listed : Contains cs plateau
  pub is : plateau.first ≡ v

pub record AreGathered (ts : Trees) (bound : Option ℕ) (cs : List Plateau) : Type 0 where
  pub each : All (IsListedPlateau ts bound) cs
  pub every : (v : ℕ) (p : List ℕ) → IsThrough ts v p → IsInBoth ts v → IsWithin bound (walk_length ts.graph p) → HasPlateau ts p cs
  pub apart : AllPairs (λ a b. a.least ≢ b.least) cs

pub record HasLeast (cs : List Plateau) (least : ℕ) : Type 0 where
  pub plateau : Plateau
  pub listed : Contains cs plateau
  pub is : plateau.least ≡ least
