-- Subpaths that are no shortest walks, and where they end.
--   HasRisingSums t                   the lengths up to the places of a trail never fall; a place's number fits
--   IsDetour o t i j d           the distance between two places is d, and the subpath isn't as long
--   FindsDetour o t via i n p    of the ends after the via up to n, p has the least whose subpath from i is
--                                a detour
--   TellsDetour o t i n result   None where the subpath from i to n is as long as the distance; else the distance
--   IsFailingStart o f l t via p no pair fails whose first place is before that of p; the subpaths from there round
--                                the via up to the last place of p are tested, and that one is a detour
--   FindsFailingStart .. result  None where no pair fails; else such a pair
use Rattle.std.specs.Prelude.{◌≡◌, ◌≢◌, ◌<◌, ◌≤◌, ◌^◌, ℕ, length, slice_index, Option, MatchOption}
use Rattle.road_model.specs.declared.answer.Pair.{Pair}
use Rattle.road_model.specs.declared.trail.Trail.{Trail}
use Rattle.road_model.specs.Graph.{Graph}
use Rattle.road_model.specs.Fraction.{Fraction}
use Rattle.road_model.specs.Places.{between, IsDistAt}
use Rattle.road_model.specs.Tests.{IsTested, FailsLocal, NoneFails}

pub record HasRisingSums (t : Trail) : Type 0 where
  pub same_length : length t.sums ≡ length t.vertices
  pub few : length t.vertices < 2 ^ 32
  pub rising : (i j : ℕ) → i ≤ j → j < length t.vertices → slice_index t.sums i ≤ slice_index t.sums j

pub record IsDetour (o : Graph) (t : Trail) (i j d : ℕ) : Type 0 where
  pub dist : IsDistAt o t i j d
  pub other : between t i j ≢ d

pub record FindsDetour (o : Graph) (t : Trail) (via i n : ℕ) (pair : Pair) : Type 0 where
  pub here : pair.first ≡ i
  pub beyond : via < pair.last
  pub within : pair.last ≤ n
  pub detour : IsDetour o t i pair.last pair.distance
  pub least : (j : ℕ) → via < j → j < pair.last → IsDistAt o t i j (between t i j)

abbrev pub TellsDetour : Graph → Trail → ℕ → ℕ → Option ℕ → Type 0
TellsDetour o t i n result = MatchOption result (IsDistAt o t i n (between t i n)) (IsDetour o t i n)

pub record IsFailingStart (o : Graph) (f : Fraction) (l : ℕ) (t : Trail) (via : ℕ) (pair : Pair) : Type 0 where
  pub before : pair.first < via
  pub beyond : via < pair.last
  pub inside : pair.last < length t.vertices
  pub below : (i j d : ℕ) → i < pair.first → FailsLocal o f l t i j d → ⊥
  pub tested : (j : ℕ) → via < j → j ≤ pair.last → IsTested f l t pair.first j
  pub detour : IsDetour o t pair.first pair.last pair.distance

abbrev pub FindsFailingStart : Graph → Fraction → ℕ → Trail → ℕ → Option Pair → Type 0
FindsFailingStart o f l t via result =
    MatchOption result (NoneFails (FailsLocal o f l t)) (IsFailingStart o f l t via)
