-- Ranks that wait for the runs of others.
--   waiting p a            the ranks that wait at a
--   nothing_waits n        none waits at any of n ranks
--   IsPut a x old new      x waits at a besides
--   IsInside n p           what waits at a rank is above it and below n
--   Waits v first head p a b   when the runs below v are laid out: b stands in the run of a or waits at a
--   IsDue v rank first head p r   this holds for the two ends of an arc
--   IsRun heads run        the members of heads, ascending and each once
--   IsAmong run i a b y    b is a, and y is one of the first i of the run but not its very first
--   ShapeSoFar n v first head p  the runs below v are laid out, and the rest of each stands in, or waits at, that of
--                          its first rank
--   IsSent run i a old new   the first i of the run but the very first wait at a besides
use Rattle.std.specs.Prelude.{◌≡◌, ◌<◌, ◌≤◌, ◌+◌, ◌⊎◌, ℕ, List, [], length, replicate, slice_index, slice_index_or, Contains}
use Rattle.road_model.specs.declared.rows.ArcRow.{ArcRow}
use Rattle.hierarchy_build.specs.Runs.{InSpan, IsUp}

abbrev pub waiting : List (List ℕ) → ℕ → List ℕ
waiting p a = slice_index_or p a []

abbrev pub nothing_waits : ℕ → List (List ℕ)
nothing_waits n = replicate n []

pub record IsPut (a x : ℕ) (old new : List (List ℕ)) : Type 0 where
  pub size : length new ≡ length old
  pub there : Contains (waiting new a) x
  pub kept : (b y : ℕ) → Contains (waiting old b) y → Contains (waiting new b) y
  pub only : (b y : ℕ) → Contains (waiting new b) y → Contains (waiting old b) y ⊎ ((b ≡ a) × (y ≡ x))

pub record IsInside (n : ℕ) (p : List (List ℕ)) : Type 0 where
  pub size : length p ≡ n
  pub above : (a y : ℕ) → Contains (waiting p a) y → a < y
  pub within : (a y : ℕ) → Contains (waiting p a) y → y < n

pub record Waits (v : ℕ) (first head : List ℕ) (p : List (List ℕ)) (a b : ℕ) : Type 0 where
  pub done : a < v → IsUp first head a b
  pub later : v ≤ a → Contains (waiting p a) b

pub record IsDue (v : ℕ) (rank first head : List ℕ) (p : List (List ℕ)) (r : ArcRow) : Type 0 where
  pub rise : slice_index rank r.tail < slice_index rank r.head → Waits v first head p (slice_index rank r.tail) (slice_index rank r.head)
  pub fall : slice_index rank r.head < slice_index rank r.tail → Waits v first head p (slice_index rank r.head) (slice_index rank r.tail)

pub record IsRun (heads run : List ℕ) : Type 0 where
  pub ascending : (j k : ℕ) → j < k → k < length run → slice_index run j < slice_index run k
  pub only : (x : ℕ) → Contains run x → Contains heads x
  pub all : (x : ℕ) → Contains heads x → Contains run x

pub record IsAmong (run : List ℕ) (i a b y : ℕ) : Type 0 where
  pub list : b ≡ a
  pub place : ℕ
  pub late : 1 ≤ place
  pub early : place < i
  pub is : slice_index run place ≡ y

pub record IsSent (run : List ℕ) (i a : ℕ) (old new : List (List ℕ)) : Type 0 where
  pub size : length new ≡ length old
  pub there : (k : ℕ) → 1 ≤ k → k < i → Contains (waiting new a) (slice_index run k)
  pub kept : (b y : ℕ) → Contains (waiting old b) y → Contains (waiting new b) y
  pub only : (b y : ℕ) → Contains (waiting new b) y → Contains (waiting old b) y ⊎ IsAmong run i a b y

pub record ShapeSoFar (n v : ℕ) (first head : List ℕ) (p : List (List ℕ)) : Type 0 where
  pub size : length first ≡ v + 1
  pub begin : slice_index first 0 ≡ 0
  pub end : slice_index first v ≡ length head
  pub rising : (u w : ℕ) → u ≤ w → w ≤ v → slice_index first u ≤ slice_index first w
  pub above : (u k : ℕ) → u < v → InSpan first u k → u < slice_index head k
  pub within : (k : ℕ) → k < length head → slice_index head k < n
  pub ascending : (u j k : ℕ) → u < v → InSpan first u j → InSpan first u k → j < k → slice_index head j < slice_index head k
  pub sent : (u k : ℕ) → u < v → InSpan first u k → slice_index first u < k → Waits v first head p (slice_index head (slice_index first u)) (slice_index head k)
  pub waits : IsInside n p
