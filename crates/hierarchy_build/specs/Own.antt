-- The graphs that a hierarchy has of its own: its links are the arcs.
--   link_row order l a k   the link at the place k of the run of a, as an arc between the vertices of its two ranks
--   run_rows order l a     those of the run of a
--   link_rows order l      those of every rank, the lowest first
--   links_graph order l    the graph of these arcs, between the vertices of all ranks
--   rising_graph h         that of the links upwards
--   falling_graph h        that of the links downwards, each turned round: its arcs lead from lower ranks to higher ones too
--   own_graph h            the arcs of the rising graph, and then those of the falling graph as they lead downwards
--   IsOwn h                the own graph of h is a graph of fewer than 2^32 vertices whose lengths and distances are below
--                          no_link, and h is a hierarchy of it
--   AreAlong s l           links that lead along the runs of a shape, between ranks that have vertices
--   Rises rank r           the arc leads from a lower rank to a higher one
use Rattle.std.specs.Prelude.{◌+◌, ◌-◌, ◌^◌, ◌<◌, ◌++◌, ℕ, List, length, slice_index, map}
use Rattle.std.specs.List.{flat_map, range_with_len}
use Rattle.road_model.specs.declared.rows.ArcRow.{ArcRow}
use Rattle.road_model.specs.Graph.{Graph, IsGraph, LengthsBelow, rows_of, reversed}
use Rattle.road_model.specs.Dist.{DistsBelow}
use Rattle.hierarchy_build.specs.declared.links.Links.{Links}
use Rattle.hierarchy_build.specs.declared.shape.Shape.{Shape}
use Rattle.hierarchy_build.specs.Parts.{Parts}
use Rattle.hierarchy_build.specs.Runs.{IsShape, IsRanked}
use Rattle.hierarchy_build.specs.Lengths.{no_link}
use Rattle.hierarchy_build.specs.Links.{AreLinks}
use Rattle.hierarchy_build.specs.Hierarchy.{IsHierarchy}

abbrev pub link_row : List ℕ → Links → ℕ → ℕ → ArcRow
link_row order l a k = record { tail = slice_index order a; head = slice_index order (slice_index l.head k); length = slice_index l.length k }

abbrev pub run_rows : List ℕ → Links → ℕ → List ArcRow
run_rows order l a = map (link_row order l a) (range_with_len (slice_index l.first a) (slice_index l.first (a + 1) - slice_index l.first a))

abbrev pub link_rows : List ℕ → Links → List ArcRow
link_rows order l = flat_map (run_rows order l) (range_with_len 0 (length order))

abbrev pub links_graph : List ℕ → Links → Graph
links_graph order l = record { vertices = length order; arcs = link_rows order l }

abbrev pub rising_graph : Parts → Graph
rising_graph h = links_graph h.shape.order h.up

abbrev pub falling_graph : Parts → Graph
falling_graph h = links_graph h.shape.order h.down

abbrev pub own_graph : Parts → Graph
own_graph h = record {
  vertices = length h.shape.order;
  arcs = rows_of (rising_graph h) ++ rows_of (reversed (falling_graph h));
}

pub record IsOwn (h : Parts) : Type 0 where
  pub few : length h.shape.order < 2 ^ 32
  pub graph : IsGraph (own_graph h)
  pub short : LengthsBelow (own_graph h) no_link
  pub near : DistsBelow (own_graph h) no_link
  pub hierarchy : IsHierarchy (own_graph h) h

pub record AreAlong (s : Shape) (l : Links) : Type 0 where
  pub ranked : IsRanked (length s.order) s.order s.rank
  pub shape : IsShape (length s.order) s.first s.head
  pub links : AreLinks (length s.order) s.first s.head l

abbrev pub Rises : List ℕ → ArcRow → Type 0
Rises rank r = slice_index rank r.tail < slice_index rank r.head
