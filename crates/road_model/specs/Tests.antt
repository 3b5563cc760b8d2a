-- The three tests of an alternative: limited sharing, local optimality, uniformly bounded stretch.
--   shared g o p        the lengths of those arcs of the optimum o that occur in p; a shortest walk has each
--                       of its arcs once, so each counts once
--   IsTested f l t i j  the subpath from place i to place j is no longer than f times l, or is shorter than
--                       that without its first and its last arc, which it has where it has two arcs
--   FailsLocal g f l t i j d    it is tested, and isn't as long as the distance d between its ends
--   FailsStretch g f t i j d    it is longer than 1 + f times the distance d between its ends; a closed
--                               subpath has the distance 0 and fails
--   NoneFails F         no pair of places fails
--   IsLeastFailure F i j d      it fails, with the least first place, and of those the least last place
use Rattle.std.specs.Prelude.{◌≢◌, ◌<◌, ◌≤◌, ◌⊎◌, ◌+◌, ◌-◌, ℕ, List, length, sum_by, if◌then◌else◌, ◌==◌}
use Rattle.std.specs.List.{list_any}
use Rattle.road_model.specs.declared.trail.Trail.{Trail}
use Rattle.road_model.specs.Graph.{Graph, length_at}
use Rattle.road_model.specs.Fraction.{Fraction, Allows, IsBelow, Exceeds}
use Rattle.road_model.specs.Places.{between, IsDistAt}

abbrev pub shared : Graph → List ℕ → List ℕ → ℕ
shared g optimum p = sum_by (λ a. if list_any (λ b. b == a) p then length_at g a else 0) optimum

abbrev pub IsTested : Fraction → ℕ → Trail → ℕ → ℕ → Type 0
IsTested alpha l t i j =
    Allows alpha (between t i j) l ⊎ ((i + 2 ≤ j) × IsBelow alpha (between t (i + 1) (j - 1)) l)

pub record FailsLocal (g : Graph) (alpha : Fraction) (l : ℕ) (t : Trail) (i j d : ℕ) : Type 0 where
  pub rise : i < j
  pub inside : j < length t.vertices
  pub tested : IsTested alpha l t i j
  pub dist : IsDistAt g t i j d
  pub other : between t i j ≢ d

pub record FailsStretch (g : Graph) (epsilon : Fraction) (t : Trail) (i j d : ℕ) : Type 0 where
  pub rise : i < j
  pub inside : j < length t.vertices
  pub dist : IsDistAt g t i j d
  pub above : Exceeds epsilon (between t i j) d

abbrev pub NoneFails : (ℕ → ℕ → ℕ → Type 0) → Type 0
NoneFails F = (i j d : ℕ) → F i j d → ⊥

pub record IsLeastFailure (F : ℕ → ℕ → ℕ → Type 0) (i j d : ℕ) : Type 0 where
  pub fails : F i j d
  pub first : (a b c : ℕ) → F a b c → i ≤ a
  pub last : (b c : ℕ) → F i b c → j ≤ b
