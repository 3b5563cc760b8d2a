use Rattle.grid_maker.specs.Grid.{cell_ends, row_ends}
use Rattle.grid_maker.proofs.Rows.{adds_all, adds_more, adds_none}
use Rattle.grid_maker.proofs.streets.Streets.push_row.Goals as goal

pub loop-column-init : goal.loop-column-init
loop-column-init c = adds_none c.args.self.now

pub loop-column-preserved : goal.loop-column-preserved
loop-column-preserved c =
    adds_more (cell_ends c.args.sides.width c.args.sides.height c.args.row) c.loop-column.column c.args.self.now c.loop-column.self _ c.loop-column.invariant c.in_ok-push_cell.ensures

pub returns : goal.returns
unfolding row_ends
returns c = adds_all (cell_ends c.args.sides.width c.args.sides.height c.args.row) c.loop-column.column c.args.sides.width c.args.self.now c.loop-column.self c.loop-column.auto.column-end c.loop-column-test.false c.loop-column.invariant
