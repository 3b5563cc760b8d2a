-- The links of one direction that a hierarchy keeps, in one run a rank.
--   links_of n l           they join the ranks so, where there are n
--   AreLinks n first head l  n runs one after another; each link leads to a rank that stands in the shape's run of its own,
--                          and is one by its length
--   Stands head lengths from to b x   a link to b of the length x stands at a place from `from` to `to`
--   Stays head full thinned from to b x   and its thinned length is the same
--   LeftAt n first head full thinned a b x   a link of these lengths whose thinned length is the same
--   IsAdded head full thinned from to old new   the links at these places that are as long as their thinned length follow the old ones
--   KeptSoFar n v first head full thinned l    so it is for the runs below v
--   AreKept n first head full thinned l    l has those links of the full lengths that are as long as their thinned length
use Rattle.std.specs.Prelude.{◌≡◌, ◌<◌, ◌≤◌, ◌+◌, ℕ, List, length, slice_index}
use Rattle.hierarchy_build.specs.declared.links.Links.{Links}
use Rattle.hierarchy_build.specs.Runs.{InSpan, IsUp}
use Rattle.hierarchy_build.specs.Lengths.{no_link, LinkAt}

abbrev pub links_of : ℕ → Links → ℕ → ℕ → ℕ → Type 0
links_of n l = LinkAt n l.first l.head l.length

pub record AreLinks (n : ℕ) (first head : List ℕ) (l : Links) : Type 0 where
  pub size : length l.first ≡ n + 1
  pub begin : slice_index l.first 0 ≡ 0
  pub end : slice_index l.first n ≡ length l.head
  pub even : length l.length ≡ length l.head
  pub rising : (v w : ℕ) → v ≤ w → w ≤ n → slice_index l.first v ≤ slice_index l.first w
  pub under : (v k : ℕ) → v < n → InSpan l.first v k → IsUp first head v (slice_index l.head k)
  pub short : (k : ℕ) → slice_index l.length k < no_link

pub record Stands (head lengths : List ℕ) (from to b x : ℕ) : Type 0 where
  pub place : ℕ
  pub late : from ≤ place
  pub early : place < to
  pub leads : slice_index head place ≡ b
  pub long : slice_index lengths place ≡ x

pub record Stays (head full thinned : List ℕ) (from to b x : ℕ) : Type 0 where
  pub stands : Stands head full from to b x
  pub least : slice_index thinned stands.place ≡ x

pub record LeftAt (n : ℕ) (first head full thinned : List ℕ) (a b x : ℕ) : Type 0 where
  pub link : LinkAt n first head full a b x
  pub least : slice_index thinned link.place ≡ x

pub record IsAdded (head full thinned : List ℕ) (from to : ℕ) (old new : Links) : Type 0 where
  pub first : new.first ≡ old.first
  pub even : length new.length ≡ length new.head
  pub more : length old.head ≤ length new.head
  pub few : length new.head + from ≤ length old.head + to
  pub heads : (k : ℕ) → k < length old.head → slice_index new.head k ≡ slice_index old.head k
  pub lengths : (k : ℕ) → k < length old.head → slice_index new.length k ≡ slice_index old.length k
  pub short : (k : ℕ) → slice_index new.length k < no_link
  pub only : (k : ℕ) → length old.head ≤ k → k < length new.head → Stays head full thinned from to (slice_index new.head k) (slice_index new.length k)
  pub all : (k : ℕ) → from ≤ k → k < to → slice_index full k < no_link → slice_index thinned k ≡ slice_index full k
      → Stands new.head new.length (length old.head) (length new.head) (slice_index head k) (slice_index full k)

pub record KeptSoFar (n v : ℕ) (first head full thinned : List ℕ) (l : Links) : Type 0 where
  pub size : length l.first ≡ v + 1
  pub begin : slice_index l.first 0 ≡ 0
  pub end : slice_index l.first v ≡ length l.head
  pub even : length l.length ≡ length l.head
  pub few : length l.head ≤ slice_index first v
  pub rising : (u w : ℕ) → u ≤ w → w ≤ v → slice_index l.first u ≤ slice_index l.first w
  pub short : (k : ℕ) → slice_index l.length k < no_link
  pub only : (u k : ℕ) → u < v → InSpan l.first u k → LeftAt n first head full thinned u (slice_index l.head k) (slice_index l.length k)
  pub all : (u k : ℕ) → u < v → InSpan first u k → slice_index full k < no_link → slice_index thinned k ≡ slice_index full k
      → LinkAt n l.first l.head l.length u (slice_index head k) (slice_index full k)

pub record AreKept (n : ℕ) (first head full thinned : List ℕ) (l : Links) : Type 0 where
  pub links : AreLinks n first head l
  pub only : (a b x : ℕ) → links_of n l a b x → LeftAt n first head full thinned a b x
  pub all : (a k : ℕ) → a < n → InSpan first a k → slice_index full k < no_link → slice_index thinned k ≡ slice_index full k
      → links_of n l a (slice_index head k) (slice_index full k)
