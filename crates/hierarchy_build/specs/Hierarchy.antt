-- What a hierarchy says of its graph.
--   IsShapeOf g s      every vertex of g has a rank, the runs have the shape of a hierarchy, and the ends of each arc
--                      stand in one run
--   HasSameEnds g h    two graphs that differ in the lengths of their arcs alone
--   HasLengths g s up down   a length for each link of a shape: that of some walk of g, and such that each walk of g
--                      has a hill that isn't longer; where a walk leads, one is shorter than no_link
--   IsHierarchy g h    its shape is one of g, its links stand in the runs of the shape, each as long as the distance between
--                      its ends, and the distances of g are those over its hills
use Rattle.std.specs.Prelude.{◌≡◌, ℕ, List, length, slice_index, slice_index_or, All}
use Rattle.road_model.specs.declared.rows.ArcRow.{ArcRow}
use Rattle.road_model.specs.Graph.{Graph, rows_of}
use Rattle.road_model.specs.Dist.{DistsBelow}
use Rattle.hierarchy_build.specs.declared.shape.Shape.{Shape}
use Rattle.hierarchy_build.specs.Parts.{Parts}
use Rattle.hierarchy_build.specs.Hills.{AreShortest, HasHills, HasHillDists}
use Rattle.hierarchy_build.specs.Runs.{IsShape, IsRanked, IsPlaced}
use Rattle.hierarchy_build.specs.Lengths.{no_link, LinkAt, AreLengths, AreWalks}
use Rattle.hierarchy_build.specs.Links.{links_of, AreLinks}

pub record IsShapeOf (g : Graph) (s : Shape) : Type 0 where
  pub ranked : IsRanked g.vertices s.order s.rank
  pub shape : IsShape g.vertices s.first s.head
  pub placed : All (IsPlaced s.rank s.first s.head) (rows_of g)

pub record HasSameEnds (g h : Graph) : Type 0 where
  pub vertices : h.vertices ≡ g.vertices
  pub count : length (rows_of h) ≡ length (rows_of g)
  pub tail : (k : ℕ) (d : ArcRow) → (slice_index_or (rows_of h) k d).tail ≡ (slice_index_or (rows_of g) k d).tail
  pub head : (k : ℕ) (d : ArcRow) → (slice_index_or (rows_of h) k d).head ≡ (slice_index_or (rows_of g) k d).head

pub record HasLengths (g : Graph) (s : Shape) (up down : List ℕ) : Type 0 where
  pub lengths : AreLengths s.head up down
  pub walks : AreWalks g s.order g.vertices s.first s.head up down
  pub below : DistsBelow g no_link
  pub hills : HasHills no_link g (slice_index s.rank) (LinkAt g.vertices s.first s.head up) (LinkAt g.vertices s.first s.head down)

pub record IsHierarchy (g : Graph) (h : Parts) : Type 0 where
  pub shape : IsShapeOf g h.shape
  pub up : AreLinks g.vertices h.shape.first h.shape.head h.up
  pub down : AreLinks g.vertices h.shape.first h.shape.head h.down
  pub shortest : AreShortest g (slice_index h.shape.rank) (links_of g.vertices h.up) (links_of g.vertices h.down)
  pub dists : HasHillDists no_link g (slice_index h.shape.rank) (links_of g.vertices h.up) (links_of g.vertices h.down)
