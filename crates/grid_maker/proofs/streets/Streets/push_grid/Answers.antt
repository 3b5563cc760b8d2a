use Rattle.grid_maker.specs.Grid.{grid_ends, row_ends}
use Rattle.grid_maker.proofs.Rows.{adds_all, adds_more, adds_none}
use Rattle.grid_maker.proofs.streets.Streets.push_grid.Goals as goal

pub loop-row-init : goal.loop-row-init
loop-row-init c = adds_none c.args.self.now

pub loop-row-preserved : goal.loop-row-preserved
loop-row-preserved c =
    adds_more (row_ends c.args.sides.width c.args.sides.height) c.loop-row.row c.args.self.now c.loop-row.self _ c.loop-row.invariant c.in_ok-push_row.ensures

pub returns : goal.returns
unfolding grid_ends
returns c = adds_all (row_ends c.args.sides.width c.args.sides.height) c.loop-row.row c.args.sides.height c.args.self.now c.loop-row.self c.loop-row.auto.row-end c.loop-row-test.false c.loop-row.invariant
