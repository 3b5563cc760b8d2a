-- The distance between two vertices: the least length of a walk.
--   NoWalk g u v         no walk leads from u to v
--   NoneShorter g u v k  no walk from u to v is shorter than k
--   HasWalk g u v k      some walk from u to v has the length k
--   IsDist g u v d       Some k: some walk has the length k and none is shorter; None: there is no walk
--   IsShortest g u p v   p is a walk, and none is shorter
--   DistsBelow g m       where a walk leads, one of less than m does (said so that it can be shown)
--   HaveSameDist g h     two graphs with the same vertices and the same distances; their arcs may differ
use Rattle.std.specs.Prelude.{◌≡◌, ◌≤◌, ◌↔◌, ℕ, List, Option, Some, None}
use Rattle.road_model.specs.Graph.{Graph}
use Rattle.road_model.specs.Walk.{IsWalk, walk_length}

abbrev pub NoWalk : Graph → ℕ → ℕ → Type 0
NoWalk g u v = (p : List ℕ) → IsWalk g u p v → ⊥

abbrev pub NoneShorter : Graph → ℕ → ℕ → ℕ → Type 0
NoneShorter g u v k = (p : List ℕ) → IsWalk g u p v → k ≤ walk_length g p

pub record HasWalk (g : Graph) (u v k : ℕ) : Type 0 where
  pub path : List ℕ
  pub walk : IsWalk g u path v
  pub long : walk_length g path ≡ k

abbrev pub IsDist : Graph → ℕ → ℕ → Option ℕ → Type 0
IsDist g u v None = NoWalk g u v
IsDist g u v (Some k) = HasWalk g u v k × NoneShorter g u v k

pub record IsShortest (g : Graph) (u : ℕ) (p : List ℕ) (v : ℕ) : Type 0 where
  pub walk : IsWalk g u p v
  pub least : NoneShorter g u v (walk_length g p)

abbrev pub DistsBelow : Graph → ℕ → Type 0
DistsBelow g m = (u v : ℕ) (p : List ℕ) → IsWalk g u p v → NoneShorter g u v m → ⊥

pub record HaveSameDist (g h : Graph) : Type 0 where
  pub vertices : g.vertices ≡ h.vertices
  pub dist : (u v : ℕ) (d : Option ℕ) → IsDist g u v d ↔ IsDist h u v d
