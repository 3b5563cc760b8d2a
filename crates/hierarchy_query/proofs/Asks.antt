-- The least hill between the ranks of two vertices is their distance.
use Rattle.std.proofs.Common.{◌≡◌, ◌<◌, ◌≤◌, ℕ, Some, None, length, slice_index, subst, arith}
use Rattle.road_model.specs.Graph.{Graph, IsVertex}
use Rattle.road_model.specs.Dist.{IsDist}
use Rattle.hierarchy_build.specs.Parts.{Parts}
use Rattle.hierarchy_build.specs.Lengths.{no_link}
use Rattle.hierarchy_build.specs.Hierarchy.{IsHierarchy}
use Rattle.hierarchy_build.specs.Own.{IsOwn}
use Rattle.hierarchy_query.specs.Climbs.{CanClimb, IsLeastHill}
use Rattle.hierarchy_query.specs.Asks.{up_links, down_links}

pub least_of_ranks : (g : Graph) (h : Parts) (n s t best from to : ℕ) → n ≡ g.vertices → s ≡ slice_index h.shape.rank from → t ≡ slice_index h.shape.rank to → IsLeastHill (up_links n h) (down_links n h) s t best → IsLeastHill (up_links g.vertices h) (down_links g.vertices h) (slice_index h.shape.rank from) (slice_index h.shape.rank to) best
least_of_ranks g h n s t best from to is_n is_s is_t least =
    subst (λ (x : ℕ). IsLeastHill (up_links x h) (down_links x h) (slice_index h.shape.rank from) (slice_index h.shape.rank to) best) is_n
    (subst (λ (x : ℕ). IsLeastHill (up_links n h) (down_links n h) x (slice_index h.shape.rank to) best) is_s
    (subst (λ (x : ℕ). IsLeastHill (up_links n h) (down_links n h) s x best) is_t least))

pub dist_of_least : (g : Graph) (h : Parts) (best from to : ℕ) → IsHierarchy g h → IsVertex g.vertices from → IsVertex g.vertices to → IsLeastHill (up_links g.vertices h) (down_links g.vertices h) (slice_index h.shape.rank from) (slice_index h.shape.rank to) best → best < no_link → IsDist g from to (Some best)
dist_of_least g h best from to is is_from is_to least real =
    (is.dists from to (Some best) is_from is_to).1 (least.some real, least.least)

pub none_of_least : (g : Graph) (h : Parts) (best from to : ℕ) → IsHierarchy g h → IsVertex g.vertices from → IsVertex g.vertices to → IsLeastHill (up_links g.vertices h) (down_links g.vertices h) (slice_index h.shape.rank from) (slice_index h.shape.rank to) best → no_link ≤ best → IsDist g from to None
none_of_least g h best from to is is_from is_to least none =
    (is.dists from to None is_from is_to).1 (λ hill. let low = least.least hill in omega arith)

-- the links of a hierarchy can be climbed
pub CanClimb-up : (h : Parts) (n : ℕ) → length h.shape.order ≡ n → IsOwn h → CanClimb n h.shape.first h.shape.head h.up
CanClimb-up h n size own =
    subst (λ (k : ℕ). CanClimb k h.shape.first h.shape.head h.up) size (record { shape = own.hierarchy.shape.shape; links = own.hierarchy.up })

pub CanClimb-down : (h : Parts) (n : ℕ) → length h.shape.order ≡ n → IsOwn h → CanClimb n h.shape.first h.shape.head h.down
CanClimb-down h n size own =
    subst (λ (k : ℕ). CanClimb k h.shape.first h.shape.head h.down) size (record { shape = own.hierarchy.shape.shape; links = own.hierarchy.down })
