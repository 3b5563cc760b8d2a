-- Tables that are emptied at once, by a stamp.
--   told now e           what an entry tells at the stamp now: its value, if it has that stamp
--   AreStamped now es    no entry has a later stamp
--   AreOlder now es      each entry has an earlier stamp
--   IsEmpty es           no place has a value
use Rattle.std.specs.Prelude.{◌≡◌, ◌≤◌, ◌<◌, ℕ, List, Option, Some, None, if◌then◌else◌, ◌==◌}
use Rattle.std.specs.List.{All, slice_index_or}
use Rattle.stamped_table.specs.declared.table.Stamped.{Stamped}

module _ {X : Type 0} where
  abbrev pub told : ℕ → Stamped X → Option X
  told now e = if e.stamp == now then Some e.value else None

  abbrev pub AreStamped : ℕ → List (Stamped X) → Type 0
  AreStamped now es = All (λ e. e.stamp ≤ now) es

  abbrev pub AreOlder : ℕ → List (Stamped X) → Type 0
  AreOlder now es = All (λ e. e.stamp < now) es

  abbrev pub IsEmpty : List (Option X) → Type 0
  IsEmpty es = (place : ℕ) → slice_index_or es place None ≡ None
