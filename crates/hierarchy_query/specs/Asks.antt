-- What an oracle over a hierarchy keeps.
--   up_links n h, down_links n h   the links of a hierarchy of n ranks
--   AreBlank n f b    no rank has a label in either array
use Rattle.std.specs.Prelude.{ℕ, List}
use Rattle.hierarchy_build.specs.Parts.{Parts}
use Rattle.hierarchy_build.specs.Links.{links_of}
use Rattle.hierarchy_query.specs.Climbs.{IsBlank}

abbrev pub up_links : ℕ → Parts → ℕ → ℕ → ℕ → Type 0
up_links n h = links_of n h.up

abbrev pub down_links : ℕ → Parts → ℕ → ℕ → ℕ → Type 0
down_links n h = links_of n h.down

pub record AreBlank (n : ℕ) (forward backward : List ℕ) : Type 0 where
  pub forward_blank : IsBlank n forward
  pub backward_blank : IsBlank n backward
