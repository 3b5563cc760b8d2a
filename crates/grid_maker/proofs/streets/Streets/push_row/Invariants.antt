use Rattle.std.specs.List.{flat_map, range_with_len}
use Rattle.grid_maker.specs.Grid.{cell_ends}
use Rattle.grid_maker.specs.Making.{AddsStreets}
use Rattle.grid_maker.proofs.streets.Streets.push_row.Given as goal

abbrev pub invariant-loop-column : goal.invariant-loop-column
invariant-loop-column l = AddsStreets l.fn.self l.self (flat_map (cell_ends l.sides.width l.sides.height l.row) (range_with_len 0 l.column))
