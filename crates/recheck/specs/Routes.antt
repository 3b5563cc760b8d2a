-- The checks on a route line.
--   IsOwnPath o r       its arcs are the path through its vertex, and aren't the optimum's
--   IsLeastName o r     no lower near vertex has the same path
--   IsSpread o p n      n is the greatest difference of labels from the source between two near vertices with the path p
--   AreNumbers o r      its numbers are those of its path
--   EachAcross o r P    P holds of each two places, one before that of the route's vertex and one after it
--   IsCovered o r       each place before that of its vertex has a block that reaches to the path's end
--   IsLocal o r         each subpath across its vertex that has to be shortest is as long as the label of its end
--   IsUnstretched o r   each subpath across its vertex is at most 1 + epsilon times the label of its end
--   IsAfter before r   it comes after the route before, where there is one
-- The label of a subpath's end is the one in the block from the subpath's start.
use Rattle.std.specs.Prelude.{◌≡◌, ◌≢◌, ◌<◌, ◌≤◌, ◌+◌, ◌⊎◌, ℕ, List, length, Option, Some, None}
use Rattle.road_model.specs.Walk.{walk_length}
use Rattle.road_model.specs.Fraction.{Stretches}
use Rattle.road_model.specs.Places.{vertex_at, between}
use Rattle.road_model.specs.Tests.{shared, IsTested}
use Rattle.road_model.specs.Alternatives.{rank_of}
use Rattle.certificate_text.specs.declared.certificate.BlockKind.TheVariants as kind
use Rattle.certificate_text.specs.declared.certificate.BlockRow.{BlockRow}
use Rattle.certificate_text.specs.declared.certificate.CertRoute.{CertRoute}
use Rattle.recheck.specs.Rows.{row_of, HasLabel, Reaches}
use Rattle.recheck.specs.Paths.{Ground, IsNear, IsThrough, trail, rows_from}

pub record IsOwnPath (o : Ground) (r : CertRoute) : Type 0 where
  pub through : IsThrough o r.via r.arcs
  pub other : r.arcs ≢ o.optimum

abbrev pub IsLeastName : Ground → CertRoute → Type 0
IsLeastName o r = (w : ℕ) → w < r.via → IsNear o w → IsThrough o w r.arcs → ⊥

pub record IsSpread (o : Ground) (p : List ℕ) (n : ℕ) : Type 0 where
  pub start : ℕ
  pub end : ℕ
  pub near_start : IsNear o start
  pub near_end : IsNear o end
  pub through_start : IsThrough o start p
  pub through_end : IsThrough o end p
  pub difference : near_end.near.label ≡ near_start.near.label + n
  pub greatest : (v w : ℕ) (a : IsNear o v) (b : IsNear o w) → IsThrough o v p → IsThrough o w p → b.near.label ≤ a.near.label + n

pub record AreNumbers (o : Ground) (r : CertRoute) : Type 0 where
  pub is_length : r.length ≡ walk_length o.graph r.arcs
  pub is_shared : r.shared ≡ shared o.graph o.optimum r.arcs
  pub is_plateau : IsSpread o r.arcs r.plateau
  pub is_rank : r.rank ≡ rank_of r.length r.shared r.plateau

abbrev pub EachAcross : Ground → CertRoute → (ℕ → ℕ → Type 0) → Type 0
EachAcross o r P = (h : IsThrough o r.via r.arcs) (i j : ℕ) → i < length h.prefix → length h.prefix < j → j ≤ length r.arcs → P i j

abbrev pub IsCovered : Ground → CertRoute → Type 0
IsCovered o r = (h : IsThrough o r.via r.arcs) (i : ℕ) → i < length h.prefix →
    Reaches o.blocks kind.From (vertex_at (trail o r.arcs) i) (λ n. n ≤ between (trail o r.arcs) i (length r.arcs))

abbrev pub IsLocal : Ground → CertRoute → Type 0
IsLocal o r = EachAcross o r (λ i j. IsTested o.query.alpha o.best (trail o r.arcs) i j →
    HasLabel (rows_from o (vertex_at (trail o r.arcs) i)) (vertex_at (trail o r.arcs) j) (between (trail o r.arcs) i j))

-- the subpath is at most 1 + epsilon times the label of its end
pub record IsUnstretchedAt (o : Ground) (p : List ℕ) (i j : ℕ) : Type 0 where
  pub row : BlockRow
  pub is : row_of (rows_from o (vertex_at (trail o p) i)) (vertex_at (trail o p) j) ≡ Some row
  pub low : Stretches o.query.epsilon (between (trail o p) i j) row.label

abbrev pub IsUnstretched : Ground → CertRoute → Type 0
IsUnstretched o r = EachAcross o r (λ i j. IsUnstretchedAt o r.arcs i j)

abbrev pub IsAfter : Option CertRoute → CertRoute → Type 0
IsAfter None r = Unit {0}
IsAfter (Some a) r = (a.rank < r.rank) ⊎ ((a.rank ≡ r.rank) × (a.via < r.via))
