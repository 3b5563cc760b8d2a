-- The least hill from the rank of the source to that of a vertex is its distance.
use Rattle.std.proofs.Common.{◌≡◌, ◌<◌, ◌≤◌, ℕ, Some, None, length, slice_index, refl}
use Rattle.road_model.specs.Graph.{IsVertex}
use Rattle.road_model.specs.Dist.{IsDist}
use Rattle.hierarchy_build.specs.Parts.{Parts}
use Rattle.hierarchy_build.specs.Lengths.{no_link}
use Rattle.hierarchy_build.specs.Hierarchy.{IsHierarchy}
use Rattle.hierarchy_build.specs.Own.{own_graph}
use Rattle.hierarchy_query.specs.declared.least_hills.LeastHills.{LeastHills}
use Rattle.hierarchy_query.specs.Climbs.{IsLeastHill}
use Rattle.hierarchy_query.specs.Asks.{up_links, down_links}
use Rattle.hierarchy_query.specs.Sources.{IsAsking}
use Rattle.hierarchy_query.proofs.Asks.{least_of_ranks, dist_of_least, none_of_least}

least_of_source : (h : Parts) (source to x best : ℕ) (l : LeastHills) → IsAsking h source l → x ≡ slice_index h.shape.rank to → IsLeastHill (up_links (length h.shape.order) h) (down_links (length h.shape.order) h) l.from x best → IsLeastHill (up_links (length h.shape.order) h) (down_links (length h.shape.order) h) (slice_index h.shape.rank source) (slice_index h.shape.rank to) best
least_of_source h source to x best l asking is least =
    least_of_ranks (own_graph h) h (length h.shape.order) l.from x best source to refl asking.from is least

pub dist_of_source : (h : Parts) → IsHierarchy (own_graph h) h → (source to x best : ℕ) (l : LeastHills) → IsAsking h source l → IsVertex (length h.shape.order) to → x ≡ slice_index h.shape.rank to → IsLeastHill (up_links (length h.shape.order) h) (down_links (length h.shape.order) h) l.from x best → best < no_link → IsDist (own_graph h) source to (Some best)
dist_of_source h is_hierarchy source to x best l asking is_to is least real =
    dist_of_least (own_graph h) h best source to is_hierarchy asking.source is_to (least_of_source h source to x best l asking is least) real

pub none_of_source : (h : Parts) → IsHierarchy (own_graph h) h → (source to x best : ℕ) (l : LeastHills) → IsAsking h source l → IsVertex (length h.shape.order) to → x ≡ slice_index h.shape.rank to → IsLeastHill (up_links (length h.shape.order) h) (down_links (length h.shape.order) h) l.from x best → no_link ≤ best → IsDist (own_graph h) source to None
none_of_source h is_hierarchy source to x best l asking is_to is least none =
    none_of_least (own_graph h) h best source to is_hierarchy asking.source is_to (least_of_source h source to x best l asking is least) none
