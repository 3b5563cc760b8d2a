-- Distances from one source.
--   Source             a graph, and the vertex that distances are asked from
--   IsAsking h v l     the hills begin at the rank of the vertex v
use Rattle.std.specs.Prelude.{◌≡◌, ℕ, length, slice_index}
use Rattle.road_model.specs.Graph.{Graph, IsVertex}
use Rattle.hierarchy_build.specs.Parts.{Parts}
use Rattle.hierarchy_query.specs.declared.least_hills.LeastHills.{LeastHills}
use Rattle.hierarchy_query.specs.KnownHills.{AreHills}

pub record Source : Type 0 where
  pub graph : Graph
  pub source : ℕ

pub record IsAsking (h : Parts) (v : ℕ) (l : LeastHills) : Type 0 where
  pub source : IsVertex (length h.shape.order) v
  pub from : l.from ≡ slice_index h.shape.rank v
  pub hills : AreHills (length h.shape.order) h l
