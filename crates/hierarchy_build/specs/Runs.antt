-- The shape of a hierarchy: the higher neighbours of each rank, one run of places a rank.
--   InSpan first v k       the place k lies in the run of v, which is from first[v] to first[v + 1]
--   IsUp first head v u    u stands in the run of v
--   IsShape n first head   n runs one after another; the ranks of a run are above its own, ascending and below n,
--                          and of two that stand in one run the lower has the higher in its own
--   IsAcross first head i j k  the place k joins the ranks at the places i and j of one run
--   HasPlace head from w   w stands at a place from `from` on
--   IsRanked n order rank  order[r] is the vertex of the rank r, and rank[v] the rank of the vertex v
--   IsPlaced rank first head r  the two ends of an arc have ranks, and the higher stands in the run of the lower
use Rattle.std.specs.Prelude.{◌≡◌, ◌<◌, ◌≤◌, ◌+◌, ℕ, List, length, slice_index}
use Rattle.road_model.specs.declared.rows.ArcRow.{ArcRow}
use Rattle.road_model.specs.Graph.{IsVertex}

pub record InSpan (first : List ℕ) (v k : ℕ) : Type 0 where
  pub low : slice_index first v ≤ k
  pub high : k < slice_index first (v + 1)

pub record IsUp (first head : List ℕ) (v u : ℕ) : Type 0 where
  pub place : ℕ
  pub span : InSpan first v place
  pub is : slice_index head place ≡ u

pub record IsShape (n : ℕ) (first head : List ℕ) : Type 0 where
  pub size : length first ≡ n + 1
  pub begin : slice_index first 0 ≡ 0
  pub end : slice_index first n ≡ length head
  pub rising : (v w : ℕ) → v ≤ w → w ≤ n → slice_index first v ≤ slice_index first w
  pub above : (v k : ℕ) → v < n → InSpan first v k → v < slice_index head k
  pub within : (k : ℕ) → k < length head → slice_index head k < n
  pub ascending : (v j k : ℕ) → v < n → InSpan first v j → InSpan first v k → j < k → slice_index head j < slice_index head k
  pub chordal : (v j k : ℕ) → v < n → InSpan first v j → InSpan first v k → j < k → IsUp first head (slice_index head j) (slice_index head k)

pub record IsAcross (first head : List ℕ) (i j k : ℕ) : Type 0 where
  pub span : InSpan first (slice_index head i) k
  pub is : slice_index head k ≡ slice_index head j

pub record HasPlace (head : List ℕ) (from w : ℕ) : Type 0 where
  pub place : ℕ
  pub late : from ≤ place
  pub inside : place < length head
  pub is : slice_index head place ≡ w

pub record IsRanked (n : ℕ) (order rank : List ℕ) : Type 0 where
  pub order_size : length order ≡ n
  pub rank_size : length rank ≡ n + 1
  pub inside : (v : ℕ) → IsVertex n v → slice_index rank v < n
  pub back : (v : ℕ) → IsVertex n v → slice_index order (slice_index rank v) ≡ v

pub record IsPlaced (rank first head : List ℕ) (r : ArcRow) : Type 0 where
  pub rise : slice_index rank r.tail < slice_index rank r.head → IsUp first head (slice_index rank r.tail) (slice_index rank r.head)
  pub fall : slice_index rank r.head < slice_index rank r.tail → IsUp first head (slice_index rank r.head) (slice_index rank r.tail)
