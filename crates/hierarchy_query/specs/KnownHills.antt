-- The least hills from one rank, worked out one by one.
--   IsKnown least x      the array has the length of the least hill to x, up to no_link
--   AreUnknown n least   it has none
--   AreForgotten n rising least found   no rank has a rise, none is known, and none is listed
--   IsLonger n old new   new begins with old, and is a list of ranks below n
--   Leads first head x y   what stands in the run of x is y or stands in that of y
--   IsStacked first head least x from found   the list has from the place `from` on the way up from x, as far as
--                        nothing is known: what stands in the run of the last one is known; where nothing is listed, x is
--   IsLeastOver l x rise least best   the least of a rise and of what leads to x by one of its links
--   AreLeast n h s least found   each known length is that of the least hill from s; what stands above a known
--                        rank is known, and each known rank is listed
--   AreHills n h l       it has the least rise from its rank to each other, and such least hills
use Rattle.std.specs.Prelude.{◌≡◌, ◌<◌, ◌≤◌, ◌+◌, ◌⊎◌, ℕ, List, [], length, slice_index}
use Rattle.hierarchy_build.specs.declared.links.Links.{Links}
use Rattle.hierarchy_build.specs.Parts.{Parts}
use Rattle.hierarchy_build.specs.Runs.{InSpan, IsUp, HasPlace}
use Rattle.hierarchy_build.specs.Lengths.{no_link}
use Rattle.hierarchy_query.specs.declared.least_hills.LeastHills.{LeastHills}
use Rattle.hierarchy_query.specs.Climbs.{IsBlank, IsClimbed, IsLeastHill}
use Rattle.hierarchy_query.specs.Asks.{up_links, down_links}

abbrev pub IsKnown : List ℕ → ℕ → Type 0
IsKnown least x = slice_index least x ≤ no_link

pub record AreUnknown (n : ℕ) (least : List ℕ) : Type 0 where
  pub size : length least ≡ n
  pub unknown : (x : ℕ) → x < n → no_link < slice_index least x

pub record AreForgotten (n : ℕ) (rising least found : List ℕ) : Type 0 where
  pub no_rise : IsBlank n rising
  pub none_known : AreUnknown n least
  pub none_listed : found ≡ []

pub record IsLonger (n : ℕ) (old new : List ℕ) : Type 0 where
  pub more : length old ≤ length new
  pub kept : (k : ℕ) → k < length old → slice_index new k ≡ slice_index old k
  pub ranks : (k : ℕ) → k < length new → slice_index new k < n

abbrev pub Leads : List ℕ → List ℕ → ℕ → ℕ → Type 0
Leads first head x y = (z : ℕ) → IsUp first head x z → (z ≡ y) ⊎ IsUp first head y z

pub record IsStacked (first head least : List ℕ) (x from : ℕ) (found : List ℕ) : Type 0 where
  pub leads : (k : ℕ) → from ≤ k → k + 1 < length found → Leads first head (slice_index found k) (slice_index found (k + 1))
  pub last : (k z : ℕ) → from ≤ k → k + 1 ≡ length found → IsUp first head (slice_index found k) z → IsKnown least z
  pub none : from ≡ length found → IsKnown least x
  pub some : from < length found → slice_index found from ≡ x

pub record IsLeastOver (l : Links) (x rise : ℕ) (least : List ℕ) (best : ℕ) : Type 0 where
  pub low : best ≤ rise
  pub all : (k : ℕ) → InSpan l.first x k → best ≤ slice_index least (slice_index l.head k) + slice_index l.length k
  pub cases : (best ≡ rise) ⊎ ((k : ℕ) × (InSpan l.first x k) × (best ≡ slice_index least (slice_index l.head k) + slice_index l.length k))

pub record AreLeast (n : ℕ) (h : Parts) (s : ℕ) (least found : List ℕ) : Type 0 where
  pub size : length least ≡ n
  pub exact : (x : ℕ) → x < n → IsKnown least x → IsLeastHill (up_links n h) (down_links n h) s x (slice_index least x)
  pub closed : (x y : ℕ) → x < n → IsKnown least x → IsUp h.shape.first h.shape.head x y → IsKnown least y
  pub listed : (x : ℕ) → x < n → IsKnown least x → HasPlace found 0 x
  pub ranks : (k : ℕ) → k < length found → slice_index found k < n

pub record AreHills (n : ℕ) (h : Parts) (l : LeastHills) : Type 0 where
  pub from : l.from < n
  pub climbed : IsClimbed n h.up l.from l.rising.items
  pub least : AreLeast n h l.from l.least.items l.found.items
