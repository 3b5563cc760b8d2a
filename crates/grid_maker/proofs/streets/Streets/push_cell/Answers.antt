use Rattle.grid_maker.specs.Grid.{lower_ends, right_ends}
use Rattle.grid_maker.proofs.Rows.{adds_then}
use Rattle.grid_maker.proofs.streets.Streets.push_cell.Goals as goal

pub returns : goal.returns
returns c =
    let s = c.args.sides in
    adds_then c.args.self.now c.push_right.new.self _ (right_ends s.width c.args.row c.args.column) (lower_ends s.width s.height c.args.row c.args.column) c.in_ok-push_right.ensures c.in_ok-push_lower.ensures
