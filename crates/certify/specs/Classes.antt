-- The classes of equal paths, and the lines of the vertices that are near.
--   AreClasses g q o cs ks    a class for each of these plateaus, in their order
--   AreAllClasses g q o ts bound ks   a class for each plateau of the paths within the bound
--   IsNearIn ts bound v       v is inside both balls, and the path through it is within the bound
--   IsRowOf g q o v x         x is the line of v, with the reason of the path through it
--   IsBound q l bound         the bound is the greatest length that is no longer than 1 + epsilon times l
use Rattle.std.specs.Prelude.{◌≡◌, ◌≤◌, ℕ, List, Some, All, map}
use Rattle.road_model.specs.declared.answer.Query.{Query}
use Rattle.road_model.specs.Graph.{Graph}
use Rattle.road_model.specs.Walk.{walk_length}
use Rattle.road_model.specs.Fraction.{Stretches}
use Rattle.canonical_trees.specs.Trees.{Trees}
use Rattle.plateau_finder.specs.declared.plateau.Plateau.{Plateau}
use Rattle.plateau_finder.specs.Plateaus.{IsInBoth, IsThrough, ArePlateaus}
use Rattle.certificate_text.specs.declared.certificate.ViaRow.{ViaRow}
use Rattle.certify.specs.declared.vias.Class.{Class}
use Rattle.certify.specs.Reasons.{HasReason}

pub record AreClasses (g : Graph) (q : Query) (optimum : List ℕ) (cs : List Plateau) (ks : List Class) : Type 0 where
  pub each : All (λ (k : Class). HasReason g q optimum k.least k.reason) ks
  pub leasts : map (λ (k : Class). k.least) ks ≡ map (λ (c : Plateau). c.least) cs

pub record AreAllClasses (g : Graph) (q : Query) (optimum : List ℕ) (ts : Trees) (bound : ℕ) (ks : List Class) : Type 0 where
  pub plateaus : List Plateau
  pub all : ArePlateaus ts (Some bound) plateaus
  pub are : AreClasses g q optimum plateaus ks

pub record IsNearIn (ts : Trees) (bound v : ℕ) : Type 0 where
  pub inside : IsInBoth ts v
  pub low : (p : List ℕ) → IsThrough ts v p → walk_length ts.graph p ≤ bound

pub record IsRowOf (g : Graph) (q : Query) (optimum : List ℕ) (v : ℕ) (x : ViaRow) : Type 0 where
  pub is_vertex : x.vertex ≡ v
  pub own : HasReason g q optimum v x.reason

pub record IsBound (q : Query) (l bound : ℕ) : Type 0 where
  pub within : Stretches q.epsilon bound l
  pub greatest : (n : ℕ) → Stretches q.epsilon n l → n ≤ bound
