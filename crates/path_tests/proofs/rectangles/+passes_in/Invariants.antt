use Rattle.path_tests.specs.Rectangle.{spread_of}
use Rattle.path_tests.proofs.rectangles.+passes_in.Given as goal

abbrev pub decreases-passes_in : goal.decreases-passes_in
decreases-passes_in g l = spread_of l.area
