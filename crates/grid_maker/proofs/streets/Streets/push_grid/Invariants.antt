use Rattle.std.specs.List.{flat_map, range_with_len}
use Rattle.grid_maker.specs.Grid.{row_ends}
use Rattle.grid_maker.specs.Making.{AddsStreets}
use Rattle.grid_maker.proofs.streets.Streets.push_grid.Given as goal

abbrev pub invariant-loop-row : goal.invariant-loop-row
invariant-loop-row l = AddsStreets l.fn.self l.self (flat_map (row_ends l.sides.width l.sides.height) (range_with_len 0 l.row))
