-- What a version of a graph is, and the hierarchy that answers for it.
--   Lineage          the graph of version 1, and the batches that were published since
--   graph_of v       the graph of a version
--   number_of v      its number
--   Serves g h       a hierarchy by a shape of g, whose own graph has the distances of g
use Rattle.std.specs.Prelude.{◌+◌, ℕ, List, length}
use Rattle.road_model.specs.declared.change.Change.{Change}
use Rattle.road_model.specs.Graph.{Graph}
use Rattle.road_model.specs.Dist.{HaveSameDist}
use Rattle.road_model.specs.Changes.{after_all}
use Rattle.hierarchy_build.specs.Parts.{Parts}
use Rattle.hierarchy_build.specs.Hierarchy.{IsShapeOf}
use Rattle.hierarchy_build.specs.Own.{own_graph}

pub record Lineage : Type 0 where
  pub base : Graph
  pub history : List (List Change)

abbrev pub graph_of : Lineage → Graph
graph_of v = after_all v.base v.history

abbrev pub number_of : Lineage → ℕ
number_of v = length v.history + 1

pub record Serves (g : Graph) (h : Parts) : Type 0 where
  pub shape : IsShapeOf g h.shape
  pub dists : HaveSameDist g (own_graph h)
