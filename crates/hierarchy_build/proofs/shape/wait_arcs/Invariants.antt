use Rattle.std.proofs.Common.{[], take, length}
use Rattle.std.specs.List.{All}
use Rattle.road_model.specs.Graph.{rows_of}
use Rattle.hierarchy_build.specs.Waits.{IsInside, IsDue}
use Rattle.hierarchy_build.proofs.shape.wait_arcs.Given as goal

abbrev pub invariant-loop-place : goal.invariant-loop-place
invariant-loop-place l = record {
  inside : IsInside (length l.order) l.pending;
  due : All (IsDue 0 l.rank [] [] l.pending) (take l.place (rows_of l.star));
}
