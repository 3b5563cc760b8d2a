-- The lengths of the links of a shape, upwards and downwards, at the places of its runs.
--   no_link                a length from this on says that there is no link
--   LinkAt n first head lengths a b x  the run of a leads to b by a link of the length x
--   AreLengths head up down   a length of at most no_link at each place, both ways
--   CanPush n first head up down  a shape with its lengths
--   AreWalks g order n first head up down  each link has the length of a walk of g; order[v] is the vertex of rank v
--   Falls from old new     nothing before the place `from` changes, and nothing rises
--   Keeps n first head from up down up' down'  both ways so, and links that were walks are walks still
--   IsTight up down i j k  the link at k is no longer, either way, than that at i and that at j together
--   AreTight n first head up down v  this holds for each two places of the run of a rank below v
--   RunIsTight first head up down v i  this holds for the place i of the run of v and each place after it there
--   Pulls n first head v up down up' down'   both ways so, and nothing changes but in the run of v
--   IsBeaten up down up' down' i j x   after it: the links at i and j are no longer, either way, than that at the other and
--                          the one at x, which joins their ranks, together
--   AreBeaten n first head v up down up' down'   this holds for each two places of the run of a rank from v on
--   AreSpelled order rank r   the ranks of an arc's ends lead back to them
--   IsWithin n rank r      an arc whose ends have ranks below n, and whose length is that of a link
--   IsCovered n first head rank up down r   an arc whose ends differ in rank has a link that isn't longer
--   KeepsArcs n rank first head rows up down up' down'   nothing rises, links that were walks of a graph with
--                          these arcs are walks of it still, and each arc is covered
--   KeepsArc               the same for one arc
use Rattle.std.specs.Prelude.{◌≡◌, ◌≢◌, ◌<◌, ◌≤◌, ◌⊎◌, ◌+◌, ◌^◌, ℕ, List, Some, length, slice_index, All}
use Rattle.road_model.specs.declared.rows.ArcRow.{ArcRow}
use Rattle.road_model.specs.Graph.{Graph, rows_of, arc_at}
use Rattle.road_model.specs.Dist.{HasWalk}
use Rattle.hierarchy_build.specs.Hills.{Within}
use Rattle.hierarchy_build.specs.Runs.{InSpan, IsShape, IsAcross}

abbrev pub no_link : ℕ
no_link = 2 ^ 57

pub record LinkAt (n : ℕ) (first head lengths : List ℕ) (a b x : ℕ) : Type 0 where
  pub place : ℕ
  pub inside : a < n
  pub span : InSpan first a place
  pub leads : slice_index head place ≡ b
  pub long : slice_index lengths place ≡ x
  pub real : x < no_link

pub record AreLengths (head up down : List ℕ) : Type 0 where
  pub up_size : length up ≡ length head
  pub down_size : length down ≡ length head
  pub up_low : (k : ℕ) → slice_index up k ≤ no_link
  pub down_low : (k : ℕ) → slice_index down k ≤ no_link

pub record CanPush (n : ℕ) (first head up down : List ℕ) : Type 0 where
  pub shape : IsShape n first head
  pub lengths : AreLengths head up down

pub record AreWalks (g : Graph) (order : List ℕ) (n : ℕ) (first head up down : List ℕ) : Type 0 where
  pub rise : (v k : ℕ) → v < n → InSpan first v k → slice_index up k < no_link → HasWalk g (slice_index order v) (slice_index order (slice_index head k)) (slice_index up k)
  pub fall : (v k : ℕ) → v < n → InSpan first v k → slice_index down k < no_link → HasWalk g (slice_index order (slice_index head k)) (slice_index order v) (slice_index down k)

pub record Falls (from : ℕ) (old new : List ℕ) : Type 0 where
  pub size : length new ≡ length old
  pub same : (k : ℕ) → k < from → slice_index new k ≡ slice_index old k
  pub falls : (k : ℕ) → slice_index new k ≤ slice_index old k

pub record Keeps (n : ℕ) (first head : List ℕ) (from : ℕ) (up down up' down' : List ℕ) : Type 0 where
  pub rise : Falls from up up'
  pub fall : Falls from down down'
  pub walks : (g : Graph) (order : List ℕ) → AreWalks g order n first head up down → AreWalks g order n first head up' down'

pub record IsTight (up down : List ℕ) (i j k : ℕ) : Type 0 where
  pub rise : slice_index up k ≤ slice_index down i + slice_index up j
  pub fall : slice_index down k ≤ slice_index down j + slice_index up i

abbrev pub AreTight : ℕ → List ℕ → List ℕ → List ℕ → List ℕ → ℕ → Type 0
AreTight n first head up down v =
    (c i j k : ℕ) → c < v → InSpan first c i → InSpan first c j → i < j → IsAcross first head i j k → IsTight up down i j k

-- one rank's, and those from one place of it on
abbrev pub RunIsTight : List ℕ → List ℕ → List ℕ → List ℕ → ℕ → ℕ → Type 0
RunIsTight first head up down v i =
    (j k : ℕ) → InSpan first v j → i < j → IsAcross first head i j k → IsTight up down i j k

pub record Pulls (n : ℕ) (first head : List ℕ) (v : ℕ) (up down up' down' : List ℕ) : Type 0 where
  pub keeps : Keeps n first head (slice_index first v) up down up' down'
  pub rise_after : (k : ℕ) → slice_index first (v + 1) ≤ k → slice_index up' k ≡ slice_index up k
  pub fall_after : (k : ℕ) → slice_index first (v + 1) ≤ k → slice_index down' k ≡ slice_index down k

pub record IsBeaten (up down up' down' : List ℕ) (i j x : ℕ) : Type 0 where
  pub far_rise : slice_index up' j ≤ slice_index up i + slice_index up' x
  pub far_fall : slice_index down' j ≤ slice_index down' x + slice_index down i
  pub near_rise : slice_index up' i ≤ slice_index up j + slice_index down' x
  pub near_fall : slice_index down' i ≤ slice_index up' x + slice_index down j

abbrev pub AreBeaten : ℕ → List ℕ → List ℕ → ℕ → List ℕ → List ℕ → List ℕ → List ℕ → Type 0
AreBeaten n first head v up down up' down' =
    (c i j x : ℕ) → v ≤ c → c < n → InSpan first c i → InSpan first c j → i < j → IsAcross first head i j x → IsBeaten up down up' down' i j x

-- one rank's, and those from one place of it on
abbrev pub RunIsBeaten : List ℕ → List ℕ → ℕ → ℕ → List ℕ → List ℕ → List ℕ → List ℕ → Type 0
RunIsBeaten first head v i up down up' down' =
    (j x : ℕ) → InSpan first v j → i < j → IsAcross first head i j x → IsBeaten up down up' down' i j x

pub record AreSpelled (order rank : List ℕ) (r : ArcRow) : Type 0 where
  pub tail : slice_index order (slice_index rank r.tail) ≡ r.tail
  pub head : slice_index order (slice_index rank r.head) ≡ r.head

pub record IsWithin (n : ℕ) (rank : List ℕ) (r : ArcRow) : Type 0 where
  pub tail_named : r.tail < length rank
  pub head_named : r.head < length rank
  pub tail : slice_index rank r.tail < n
  pub head : slice_index rank r.head < n
  pub short : r.length < no_link

abbrev pub IsCovered : ℕ → List ℕ → List ℕ → List ℕ → List ℕ → List ℕ → ArcRow → Type 0
IsCovered n first head rank up down r =
    slice_index rank r.tail ≢ slice_index rank r.head
    → Within (LinkAt n first head up) (slice_index rank r.tail) (slice_index rank r.head) r.length
    ⊎ Within (LinkAt n first head down) (slice_index rank r.head) (slice_index rank r.tail) r.length

-- what one arc does
pub record KeepsArc (n : ℕ) (rank first head : List ℕ) (r : ArcRow) (up down up' down' : List ℕ) : Type 0 where
  pub rise : Falls 0 up up'
  pub fall : Falls 0 down down'
  pub walks : (g : Graph) (order : List ℕ) (a : ℕ) → arc_at g a ≡ Some r → AreSpelled order rank r → AreWalks g order n first head up down → AreWalks g order n first head up' down'
  pub covered : IsCovered n first head rank up' down' r

-- what all arcs do
pub record KeepsArcs (n : ℕ) (rank first head : List ℕ) (rows : List ArcRow) (up down up' down' : List ℕ) : Type 0 where
  pub rise : Falls 0 up up'
  pub fall : Falls 0 down down'
  pub walks : (g : Graph) (order : List ℕ) → rows_of g ≡ rows → All (AreSpelled order rank) rows → AreWalks g order n first head up down → AreWalks g order n first head up' down'
  pub covered : All (IsCovered n first head rank up' down') rows
