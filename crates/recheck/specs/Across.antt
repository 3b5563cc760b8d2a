-- The places of a route's path, and what its checks ask of them.
--   IsSplit o r t k     t is the trail of the route's path, and k the place of the route's vertex in it
--   IsMeasured t        each place has a length so far, and these never fall
--   EachBefore k P      P holds of each place before k
--   EachAfter k n P     P holds of each place after k and before n
--   IsCoveredAt o t i   a block from the vertex at i reaches to the last place
--   IsLocalAt o t i j   where the subpath from i to j has to be shortest, it is as long as the label of its end
--   HasLabelFor f rows v n   v has a row, and n is at most 1 + f times its label
--   IsLowAt o t i j     the subpath from i to j is at most 1 + epsilon times the label of its end
--   across_checks, path_checks   those of a route's checks that ask this, and those that ask of its path at all
use Rattle.std.specs.Prelude.{◌≡◌, ◌<◌, ◌≤◌, ◌-◌, ℕ, List, length, Some, slice_index}
use Rattle.road_model.specs.declared.trail.Trail.{Trail}
use Rattle.road_model.specs.Fraction.{Fraction, Allows, Stretches}
use Rattle.road_model.specs.Places.{vertex_at, between}
use Rattle.road_model.specs.Tests.{IsTested}
use Rattle.certificate_text.specs.declared.certificate.BlockKind.TheVariants as kind
use Rattle.certificate_text.specs.declared.certificate.BlockRow.{BlockRow}
use Rattle.certificate_text.specs.declared.certificate.CertRoute.{CertRoute}
use Rattle.certificate_text.specs.declared.fault.CertKind.TheVariants as word
use Rattle.recheck.specs.Rows.{row_of, HasLabel, Reaches}
use Rattle.recheck.specs.Paths.{Ground, IsThrough, trail, rows_from}
use Rattle.recheck.specs.Routes.{IsLeastName, AreNumbers, IsCovered, IsLocal, IsUnstretched}
use Rattle.recheck.specs.Checks.{Checks, check}

pub record IsSplit (o : Ground) (r : CertRoute) (t : Trail) (k : ℕ) : Type 0 where
  pub path : t ≡ trail o r.arcs
  pub through : IsThrough o r.via r.arcs
  pub place : (h : IsThrough o r.via r.arcs) → length h.prefix ≡ k
  pub inside : k < length t.vertices

pub record IsMeasured (t : Trail) : Type 0 where
  pub count : length t.sums ≡ length t.vertices
  pub rise : (i j : ℕ) → i ≤ j → j < length t.sums → slice_index t.sums i ≤ slice_index t.sums j

abbrev pub EachBefore : ℕ → (ℕ → Type 0) → Type 0
EachBefore k P = (i : ℕ) → i < k → P i

abbrev pub EachAfter : ℕ → ℕ → (ℕ → Type 0) → Type 0
EachAfter k n P = (j : ℕ) → k < j → j < n → P j

abbrev pub IsCoveredAt : Ground → Trail → ℕ → Type 0
IsCoveredAt o t i = Reaches o.blocks kind.From (vertex_at t i) (λ n. n ≤ between t i (length t.vertices - 1))

abbrev pub IsLocalAt : Ground → Trail → ℕ → ℕ → Type 0
IsLocalAt o t i j = IsTested o.query.alpha o.best t i j → HasLabel (rows_from o (vertex_at t i)) (vertex_at t j) (between t i j)

pub record HasLabelFor (f : Fraction) (rows : List BlockRow) (v n : ℕ) : Type 0 where
  pub row : BlockRow
  pub is : row_of rows v ≡ Some row
  pub low : Stretches f n row.label

abbrev pub IsLowAt : Ground → Trail → ℕ → ℕ → Type 0
IsLowAt o t i j = HasLabelFor o.query.epsilon (rows_from o (vertex_at t i)) (vertex_at t j) (between t i j)

abbrev pub across_checks : Ground → ℕ → CertRoute → Checks → Checks
across_checks o line r rest =
    check line word.Cover (IsCovered o r)
    (check line word.Local (IsLocal o r)
    (check line word.Stretch (IsUnstretched o r) rest))

abbrev pub path_checks : Ground → ℕ → CertRoute → Checks → Checks
path_checks o line r rest =
    check line word.Name (IsLeastName o r)
    (check line word.Numbers (AreNumbers o r)
    (check line word.Share (Allows o.query.gamma r.shared o.best) (across_checks o line r rest)))
