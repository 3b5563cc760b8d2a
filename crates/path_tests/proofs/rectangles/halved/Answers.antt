use Rattle.std.proofs.Common.{◌+◌, ◌-◌, ◌/◌, arith}
use Rattle.path_tests.proofs.Halving.{AreHalves-rows, AreHalves-columns}
use Rattle.path_tests.proofs.rectangles.halved.Goals as goal

pub returns-then-area : goal.returns-then-area
returns-then-area c =
    AreHalves-rows c.args.area (c.args.area.low + (c.args.area.high - c.args.area.low) / 2) (omega arith) (omega arith) c.requires.columns

pub returns : goal.returns
returns c =
    AreHalves-columns c.args.area (c.args.area.from + (c.args.area.to - c.args.area.from) / 2) (omega arith) (omega arith) c.requires.rows
