-- Pairs of places round a via, as a rectangle of first places by last ones.
--   IsRectangle t via r      first places before the via, last places after it, some of each
--   IsPairOf r i j           the places i and j are a first and a last place of r
--   pairs_in r               how many pairs there are
--   spread_of r              how far it is from being one pair
--   IsHalf r h               h has some of the pairs of r, and is nearer to being one pair
--   AreHalves r h            two rectangles that have the pairs of r between them; the outer one has its outermost pair
--   NoneFailsIn F r          no pair of the rectangle fails
--   IsLeastIn F r p          p fails, and of the failing pairs of r none has a lesser first place, nor with that
--                            one a lesser last place
--   FindsIn F r result       None: no pair fails; else such a pair
--   TellsPassingIn F r passes   true: no pair of the rectangle fails; false: some pair of places does
--   IsBefore p q             p has the lesser first place, or the same and no greater last place
--   IsLesserOf a b result    the pair that is before the other
--   IsWholeRectangle t via o None: no pair is round the via; else the rectangle of all that are
use Rattle.std.specs.Prelude.{◌≡◌, ◌<◌, ◌≤◌, ◌⊎◌, ◌+◌, ◌-◌, ◌*◌, ℕ, length, Bool, MatchBool, Option, Some, None, MatchOption}
use Rattle.road_model.specs.declared.answer.Pair.{Pair}
use Rattle.road_model.specs.declared.trail.Trail.{Trail}
use Rattle.path_tests.specs.declared.rectangles.Rectangle.{Rectangle}
use Rattle.path_tests.specs.declared.rectangles.Halves.{Halves}
use Rattle.path_tests.specs.Passing.{HasFailure}

pub record IsRectangle (t : Trail) (via : ℕ) (r : Rectangle) : Type 0 where
  pub rows : r.low < r.high
  pub before : r.high ≤ via
  pub beyond : via < r.from
  pub columns : r.from ≤ r.to
  pub inside : r.to < length t.vertices

pub record IsPairOf (r : Rectangle) (i j : ℕ) : Type 0 where
  pub low : r.low ≤ i
  pub high : i < r.high
  pub from : r.from ≤ j
  pub to : j ≤ r.to

abbrev pub pairs_in : Rectangle → ℕ
pairs_in r = (r.high - r.low) * (r.to + 1 - r.from)

abbrev pub spread_of : Rectangle → ℕ
spread_of r = (r.high - r.low) + (r.to - r.from)

-- one of the two
pub record IsHalf (r h : Rectangle) : Type 0 where
  pub rows : h.low < h.high
  pub columns : h.from ≤ h.to
  pub low : r.low ≤ h.low
  pub high : h.high ≤ r.high
  pub from : r.from ≤ h.from
  pub to : h.to ≤ r.to
  pub less : spread_of h < spread_of r

pub record AreHalves (r : Rectangle) (h : Halves) : Type 0 where
  pub outer : IsHalf r h.outer
  pub inner : IsHalf r h.inner
  pub low : h.outer.low ≡ r.low
  pub to : h.outer.to ≡ r.to
  pub covers : (i j : ℕ) → IsPairOf r i j → IsPairOf h.outer i j ⊎ IsPairOf h.inner i j
  pub pairs : pairs_in h.outer + pairs_in h.inner ≡ pairs_in r

abbrev pub NoneFailsIn : (ℕ → ℕ → ℕ → Type 0) → Rectangle → Type 0
NoneFailsIn F r = (i j d : ℕ) → IsPairOf r i j → F i j d → ⊥

pub record IsLeastIn (F : ℕ → ℕ → ℕ → Type 0) (r : Rectangle) (pair : Pair) : Type 0 where
  pub fails : F pair.first pair.last pair.distance
  pub first : (i j d : ℕ) → IsPairOf r i j → F i j d → pair.first ≤ i
  pub last : (j d : ℕ) → IsPairOf r pair.first j → F pair.first j d → pair.last ≤ j

abbrev pub FindsIn : (ℕ → ℕ → ℕ → Type 0) → Rectangle → Option Pair → Type 0
FindsIn F r result = MatchOption result (NoneFailsIn F r) (IsLeastIn F r)

abbrev pub TellsPassingIn : (ℕ → ℕ → ℕ → Type 0) → Rectangle → Bool → Type 0
TellsPassingIn F r passes = MatchBool passes (NoneFailsIn F r) (HasFailure F)

abbrev pub IsBefore : Pair → Pair → Type 0
IsBefore p q = (p.first < q.first) ⊎ ((p.first ≡ q.first) × (p.last ≤ q.last))

abbrev pub IsLesserOf : Option Pair → Option Pair → Option Pair → Type 0
IsLesserOf None b result = result ≡ b
IsLesserOf (Some a) None result = result ≡ Some a
IsLesserOf (Some a) (Some b) result = ((result ≡ Some a) × IsBefore a b) ⊎ ((result ≡ Some b) × IsBefore b a)

abbrev pub IsWholeRectangle : Trail → ℕ → Option Rectangle → Type 0
IsWholeRectangle t via None = (via ≡ 0) ⊎ (length t.vertices ≤ via + 1)
IsWholeRectangle t via (Some r) =
    (r ≡ record { low = 0; high = via; from = via + 1; to = length t.vertices - 1 }) × (0 < via) × (via + 1 < length t.vertices)
