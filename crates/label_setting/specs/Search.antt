-- A search under way. Labels are numbers, one a place, the far number where there is none.
--   far                    the number of a vertex without a label, above every limit
--   IsMet limit labels k v a walk of length k to v betters nothing: it is above the limit, or the label of v is no more
--   IsRelaxed g limit labels x   no step out of x betters a label
--   IsTracked labels touched   each vertex with a label is among the touched ones
--   IsTouchedList radius labels touched   the touched vertices have labels within the radius, and none is listed twice
--   IsEntry n e            an entry of a vertex, with a distance that a sum may start from
--   IsAimed goal limit labels  the limit is the target's label, or the radius where the target has none within it
--   IsFreshMemory f              no vertex has a label, and nothing is queued
--   Stays, Betters         what the walk over one more arc does to a label, the queue and the limit
--   IsSearch g goal limit labels queue v n   labels are lengths of walks; each labelled vertex below the limit
--                          waits in the queue or is relaxed, but for v, of which the first n steps are
--   IsSettled g root limit labels   the vertices within the limit have their distance, the others are beyond it
--   Begins goal f          its root alone has a label
--   work_left f            falls with each entry that is taken out
use Rattle.std.specs.Prelude.{◌≡◌, ◌≢◌, ◌<◌, ◌≤◌, ◌+◌, ◌*◌, ◌^◌, ◌⊎◌, ℕ, List, [], ◌∷◌, Some, length, sum, slice_index, slice_set, All, Contains, nat_eq}
use Rattle.std.specs.List.{IsDistinct}
use Rattle.std.specs.List.Sorted.{IsPermutation}
use Rattle.road_model.specs.declared.network.Step.{Step}
use Rattle.road_model.specs.Graph.{Graph, IsVertex, step_at}
use Rattle.road_model.specs.Walk.{IsWalk, walk_length}
use Rattle.road_model.specs.Dist.{IsDist, HasWalk}
use Rattle.label_setting.specs.declared.queue.Entry.{Entry}
use Rattle.label_setting.specs.declared.memory.Goal.{Goal}
use Rattle.label_setting.specs.declared.memory.SearchMemory.{SearchMemory}

abbrev pub far : ℕ
far = 18446744073709551615

abbrev pub IsMet : ℕ → List ℕ → ℕ → ℕ → Type 0
IsMet limit labels k v = k ≤ limit → slice_index labels v ≤ k

abbrev pub IsRelaxed : Graph → ℕ → List ℕ → ℕ → Type 0
IsRelaxed g limit labels x = (i : ℕ) (s : Step) → step_at g x i ≡ Some s → IsMet limit labels (slice_index labels x + s.length) s.head

pub record IsTracked (labels touched : List ℕ) : Type 0 where
  pub inside : All (λ v. v < length labels) touched
  pub covers : (x : ℕ) → x < length labels → (slice_index labels x ≡ far) ⊎ Contains touched x

pub record IsTouchedList (radius : ℕ) (labels touched : List ℕ) : Type 0 where
  pub low : radius < 2 ^ 60
  pub each : (x : ℕ) → Contains touched x → slice_index labels x ≤ radius
  pub apart : IsDistinct nat_eq touched

pub record IsEntry (n : ℕ) (e : Entry) : Type 0 where
  pub vertex : IsVertex n e.vertex
  pub short : e.distance < 2 ^ 60

abbrev pub IsAimed : Goal → ℕ → List ℕ → Type 0
IsAimed goal limit labels = (slice_index labels goal.target ≡ limit) ⊎ ((limit ≡ goal.radius) × (goal.radius < slice_index labels goal.target))

pub record IsFreshMemory (f : SearchMemory) : Type 0 where
  pub bare : All (λ x. x ≡ far) f.labels.items
  pub untouched : f.touched.items ≡ []
  pub idle : f.queue ≡ []

-- what one step does that betters nothing
pub record Stays (limit distance head limit_after : ℕ) (before after : SearchMemory) : Type 0 where
  pub met : IsMet limit before.labels.items distance head
  pub limit_stays : limit_after ≡ limit
  pub labels : after.labels.items ≡ before.labels.items
  pub queue : after.queue ≡ before.queue

-- and one that betters a label
pub record Betters (target limit distance head limit_after : ℕ) (before after : SearchMemory) : Type 0 where
  pub within : distance ≤ limit
  pub better : distance < slice_index before.labels.items head
  pub labels : after.labels.items ≡ slice_set before.labels.items head distance
  pub queue : IsPermutation (record { distance = distance; vertex = head } ∷ before.queue) after.queue
  pub limit_shrinks : ((head ≡ target) × (limit_after ≡ distance)) ⊎ ((head ≢ target) × (limit_after ≡ limit))

pub record IsSearch (g : Graph) (goal : Goal) (limit : ℕ) (labels : List ℕ) (queue : List Entry) (v n : ℕ) : Type 0 where
  pub size : length labels ≡ g.vertices + 1
  pub start : slice_index labels goal.root ≡ 0
  pub unused : slice_index labels 0 ≡ far
  pub within : limit ≤ goal.radius
  pub aim : IsAimed goal limit labels
  pub walks : (x : ℕ) → x ≤ g.vertices → slice_index labels x ≤ limit → HasWalk g goal.root x (slice_index labels x)
  pub inside : All (IsEntry g.vertices) queue
  pub waits : (x : ℕ) → IsVertex g.vertices x → slice_index labels x < limit → x ≢ v → Contains queue (record { distance = slice_index labels x; vertex = x }) ⊎ IsRelaxed g limit labels x
  pub here : (i : ℕ) (s : Step) → i < n → step_at g v i ≡ Some s → IsMet limit labels (slice_index labels v + s.length) s.head

pub record IsSettled (g : Graph) (root limit : ℕ) (labels : List ℕ) : Type 0 where
  pub size : length labels ≡ g.vertices + 1
  pub near : (x : ℕ) → x ≤ g.vertices → slice_index labels x ≤ limit → IsDist g root x (Some (slice_index labels x))
  pub beyond : (x : ℕ) → limit < slice_index labels x → (p : List ℕ) → IsWalk g root p x → limit < walk_length g p

abbrev pub work_left : SearchMemory → ℕ
work_left f = 2 * sum f.labels.items + length f.queue

-- a search that has labelled its root
pub record Begins (goal : Goal) (f : SearchMemory) : Type 0 where
  pub listed : IsTouchedList goal.radius f.labels.items f.touched.items
  pub root : slice_index f.labels.items goal.root ≡ 0
  pub others : (x : ℕ) → x < length f.labels.items → x ≢ goal.root → slice_index f.labels.items x ≡ far
  pub queue : IsPermutation (record { distance = 0; vertex = goal.root } ∷ []) f.queue
