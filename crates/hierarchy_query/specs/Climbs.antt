-- Labels of the ranks above one, and what two climbs make of them.
--   IsBlank n labels    no rank has a label
--   CanRelax n l x      the links from x are there, lead to ranks below n, and are links by their lengths
--   CanClimb n first head l   a shape, and links of one direction along it
--   IsReached l x from y to   a link from x leads to y, where the label is that of x and the link's length
--   IsRelaxed l x old new     the labels when every link from x has been relaxed
--   Climbing n first head l s x labels   every rank below x is relaxed, and labels above x stand in its run
--   IsClimbed n l s labels    each label is the least length of a rise from s, up to no_link
--   IsPath first head x p y   p leads from x up to y, by runs
--   Above first head x y      some path does
--   CanMeet first head forward backward s   labels of two climbs, of which the first began at s
--   IsMeeting forward backward best   the least sum of the two labels of a rank, up to no_link
--   IsLeastHill U D s t best  the least length of a hill, up to no_link
use Rattle.std.specs.Prelude.{◌≡◌, ◌<◌, ◌≤◌, ◌+◌, ◌⊎◌, ℕ, List, [], ◌∷◌, length, slice_index}
use Rattle.hierarchy_build.specs.declared.links.Links.{Links}
use Rattle.hierarchy_build.specs.Hills.{IsRise, rise_length, HasRise, HasHill, NoneLower}
use Rattle.hierarchy_build.specs.Runs.{InSpan, IsUp, IsShape}
use Rattle.hierarchy_build.specs.Lengths.{no_link}
use Rattle.hierarchy_build.specs.Links.{links_of, AreLinks}

pub record IsBlank (n : ℕ) (labels : List ℕ) : Type 0 where
  pub size : length labels ≡ n
  pub blank : (y : ℕ) → y < n → slice_index labels y ≡ no_link

pub record CanRelax (n : ℕ) (l : Links) (x : ℕ) : Type 0 where
  pub rank : x + 1 < length l.first
  pub end : slice_index l.first (x + 1) ≤ length l.head
  pub even : length l.length ≡ length l.head
  pub within : (k : ℕ) → InSpan l.first x k → slice_index l.head k < n
  pub short : (k : ℕ) → slice_index l.length k < no_link

pub record CanClimb (n : ℕ) (first head : List ℕ) (l : Links) : Type 0 where
  pub shape : IsShape n first head
  pub links : AreLinks n first head l

pub record IsReached (l : Links) (x from y to : ℕ) : Type 0 where
  pub place : ℕ
  pub span : InSpan l.first x place
  pub is : slice_index l.head place ≡ y
  pub long : to ≡ from + slice_index l.length place

pub record IsRelaxed (l : Links) (x : ℕ) (old new : List ℕ) : Type 0 where
  pub size : length new ≡ length old
  pub falls : (y : ℕ) → slice_index new y ≤ slice_index old y
  pub done : (k : ℕ) → InSpan l.first x k → slice_index new (slice_index l.head k) ≤ slice_index old x + slice_index l.length k
  pub cases : (y : ℕ) → (slice_index new y ≡ slice_index old y) ⊎ IsReached l x (slice_index old x) y (slice_index new y)

pub record Climbing (n : ℕ) (first head : List ℕ) (l : Links) (s x : ℕ) (labels : List ℕ) : Type 0 where
  pub size : length labels ≡ n
  pub low : (y : ℕ) → slice_index labels y ≤ no_link
  pub start : slice_index labels s ≡ 0
  pub late : s ≤ x
  pub inside : x < n
  pub walks : (y : ℕ) → y < n → slice_index labels y < no_link → HasRise (links_of n l) s y (slice_index labels y)
  pub relaxed : (y k : ℕ) → y < x → InSpan l.first y k → slice_index labels (slice_index l.head k) ≤ slice_index labels y + slice_index l.length k
  pub ahead : (y : ℕ) → y < n → x < y → slice_index labels y < no_link → IsUp first head x y

pub record IsClimbed (n : ℕ) (l : Links) (s : ℕ) (labels : List ℕ) : Type 0 where
  pub size : length labels ≡ n
  pub low : (y : ℕ) → slice_index labels y ≤ no_link
  pub walks : (y : ℕ) → y < n → slice_index labels y < no_link → HasRise (links_of n l) s y (slice_index labels y)
  pub least : (p : List (ℕ × ℕ)) (y : ℕ) → IsRise (links_of n l) s p y → slice_index labels y ≤ rise_length p

abbrev pub IsPath : List ℕ → List ℕ → ℕ → List ℕ → ℕ → Type 0
IsPath first head x [] y = x ≡ y
IsPath first head x (z ∷ p) y = IsUp first head x z × IsPath first head z p y

pub record Above (first head : List ℕ) (x y : ℕ) : Type 0 where
  pub path : List ℕ
  pub is : IsPath first head x path y

pub record IsLeastHill (U D : ℕ → ℕ → ℕ → Type 0) (s t best : ℕ) : Type 0 where
  pub low : best ≤ no_link
  pub least : NoneLower U D s t best
  pub some : best < no_link → HasHill U D s t best

pub record CanMeet (first head forward backward : List ℕ) (s : ℕ) : Type 0 where
  pub shape : IsShape (length forward) first head
  pub size : length backward ≡ length forward
  pub rank : s < length forward
  pub forward_low : (y : ℕ) → slice_index forward y ≤ no_link
  pub backward_low : (y : ℕ) → slice_index backward y ≤ no_link
  pub above : (y : ℕ) → y < length forward → slice_index forward y < no_link → Above first head s y

pub record IsMeeting (forward backward : List ℕ) (best : ℕ) : Type 0 where
  pub low : best ≤ no_link
  pub least : (y : ℕ) → y < length forward → slice_index forward y < no_link → best ≤ slice_index forward y + slice_index backward y
  pub some : best < no_link → (y : ℕ) × (y < length forward) × (best ≡ slice_index forward y + slice_index backward y)
