-- A grid in the making.
--   IsEmpty seed s       no arc yet, and the generator stands at the seed
--   AddsStreets old new ends    the arcs with these ends were added, and the generator stands after their words
use Rattle.std.specs.Prelude.{◌≡◌, ℕ, List, [], ◌++◌}
use Rattle.grid_maker.specs.declared.streets.Streets.{Streets}
use Rattle.grid_maker.specs.Grid.{rows_from, state_after}

pub record IsEmpty (seed : ℕ) (s : Streets) : Type 0 where
  pub no_arc : s.arcs.items ≡ []
  pub begun : s.words ≡ seed

pub record AddsStreets (old new : Streets) (ends : List (ℕ × ℕ)) : Type 0 where
  pub rows : new.arcs.items ≡ old.arcs.items ++ rows_from old.words ends
  pub beyond : new.words ≡ state_after old.words ends
