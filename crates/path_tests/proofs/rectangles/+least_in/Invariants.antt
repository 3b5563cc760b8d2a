use Rattle.path_tests.specs.Rectangle.{spread_of}
use Rattle.path_tests.proofs.rectangles.+least_in.Given as goal

abbrev pub decreases-least_in : goal.decreases-least_in
decreases-least_in g l = spread_of l.area
