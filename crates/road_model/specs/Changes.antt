-- A graph after published changes of lengths.
--   with_row g a length o   the length of arc a, which is o, is replaced; where there is none, nothing changes
--   changed g c    the length of the named arc is replaced; no other thing changes
--   after g b      the changes of a batch, in their order, so that a later change of an arc wins
--   after_all g h  the batches of a list, in turn
--   fault_of g c   what is wrong with a change: its arc isn't one of the graph's, or else its length is outside 1 to MAX_LENGTH
--   change_fault g b   what is wrong with the first failing change of a batch
use Rattle.std.specs.Prelude.{◌-◌, ◌&&◌, ℕ, List, [], ◌∷◌, Option, Some, None, slice_set, nat_le, if◌then◌else◌}
use Rattle.std.specs.Option.{option_or}
use Rattle.road_model.specs.declared.rows.ArcRow.{ArcRow}
use Rattle.road_model.specs.declared.change.Change.{Change}
use Rattle.road_model.specs.declared.change.ChangeFault.{ChangeFault}
use Rattle.road_model.specs.declared.change.ChangeFault.TheVariants as fault
use Rattle.road_model.specs.declared.graph_file.TheConstants.{MAX_LENGTH}
use Rattle.road_model.specs.Graph.{Graph, rows_of, arc_at, arc_count}

abbrev pub with_row : Graph → ℕ → ℕ → Option ArcRow → Graph
with_row g a length None = g
with_row g a length (Some r) = record g { arcs = slice_set (rows_of g) (a - 1) (record r { length = length }) }

abbrev pub changed : Graph → Change → Graph
changed g c = with_row g c.arc c.length (arc_at g c.arc)

abbrev pub after : Graph → List Change → Graph
after g [] = g
after g (c ∷ batch) = after (changed g c) batch

abbrev pub after_all : Graph → List (List Change) → Graph
after_all g [] = g
after_all g (batch ∷ batches) = after_all (after g batch) batches

abbrev pub fault_of : Graph → Change → Option ChangeFault
fault_of g c =
    if nat_le 1 c.arc && nat_le c.arc (arc_count g)
    then (if nat_le 1 c.length && nat_le c.length MAX_LENGTH then None else Some fault.LengthRange)
    else Some fault.ArcRange

abbrev pub change_fault : Graph → List Change → Option ChangeFault
change_fault g [] = None
change_fault g (c ∷ batch) = option_or (fault_of g c) (change_fault g batch)
