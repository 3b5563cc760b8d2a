-- The limits of a graph that a file gives.
--   IsWithinLimits g   at most MAX_VERTICES vertices and MAX_ARCS arcs, each end a vertex, each length from 1 to MAX_LENGTH
use Rattle.std.specs.Prelude.{◌≤◌, ◌+◌}
use Rattle.road_model.specs.declared.graph_file.TheConstants.{MAX_VERTICES, MAX_ARCS, MAX_LENGTH}
use Rattle.road_model.specs.Graph.{Graph, arc_count, IsGraph, LengthsBelow}

pub record IsWithinLimits (g : Graph) : Type 0 where
  pub few_vertices : g.vertices ≤ MAX_VERTICES
  pub few_arcs : arc_count g ≤ MAX_ARCS
  pub is_graph : IsGraph g
  pub short : LengthsBelow g (MAX_LENGTH + 1)
