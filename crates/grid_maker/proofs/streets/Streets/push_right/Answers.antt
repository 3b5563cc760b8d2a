use Rattle.std.proofs.Common.{arith}
use Rattle.std.proofs.lemmas.Bool.Decides.{nat_tests}
use Rattle.grid_maker.specs.Grid.{right_ends}
use Rattle.grid_maker.proofs.Rows.{adds_nothing}
use Rattle.grid_maker.proofs.streets.Streets.push_right.Goals as goal

pub returns : goal.returns
returns c = adds_nothing c.args.self.now (right_ends c.args.sides.width c.args.row c.args.column) (grind (arith, nat_tests))
