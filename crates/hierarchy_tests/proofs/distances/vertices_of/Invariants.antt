use Rattle.std.proofs.Common.{All}
use Rattle.road_model.specs.Graph.{IsVertex}
use Rattle.hierarchy_tests.proofs.distances.vertices_of.Given as goal

abbrev pub invariant-loop-number : goal.invariant-loop-number
invariant-loop-number l = All (IsVertex l.vertices) l.list
