-- What a search from a root finds: labels, each the distance of a vertex, and the vertices that have one.
--   label_at labels v      the label of v, if it has one; it stands at the place v, and no label at the place 0
--   IsWithin radius k      k is at most the radius; there may be none
--   IsBeyond radius k      k is above the radius
--   IsLabelled g root radius labels   exactly the vertices within the radius have a label, their distance
--   Reached                labels, and the vertices that have one
--   IsBall g root radius b   such labels, and their vertices, ascending
--   IsLabelledTo g root target values d   d is the distance of the target, and the numbers up to it are the labels
--                          within that radius
--   IsFoundTo g root target values found   none exactly where no walk leads to the target; else its distance
--   IsBounded g radius     the condition of a search: the radius is below 2^60, or all distances below 2^58
--   label_within limit x   a stored number as a label: none above the limit
--   IsKept limit values members   numbers of which those up to the limit are labels, and a memory that can be reset
use Rattle.std.specs.Prelude.{◌≡◌, ◌<◌, ◌≤◌, ◌^◌, ◌↔◌, ℕ, List, Option, Some, None, IsSome, Contains, nat_le, if◌then◌else◌, map}
use Rattle.std.specs.List.{slice_index_or}
use Rattle.std.specs.List.Sorted.{IsStrictlyIncreasing}
use Rattle.road_model.specs.Graph.{Graph}
use Rattle.road_model.specs.Walk.{IsWalk, walk_length}
use Rattle.road_model.specs.Dist.{IsDist, NoWalk, DistsBelow}
use Rattle.label_setting.specs.Search.{IsTracked}

abbrev pub label_at : List (Option ℕ) → ℕ → Option ℕ
label_at labels v = slice_index_or labels v None

abbrev pub IsWithin : Option ℕ → ℕ → Type 0
IsWithin None k = Unit {0}
IsWithin (Some r) k = k ≤ r

abbrev pub IsBeyond : Option ℕ → ℕ → Type 0
IsBeyond None k = ⊥
IsBeyond (Some r) k = r < k

pub record IsLabelled (g : Graph) (root : ℕ) (radius : Option ℕ) (labels : List (Option ℕ)) : Type 0 where
  pub near : (v k : ℕ) → label_at labels v ≡ Some k → IsDist g root v (Some k) × IsWithin radius k
  pub far : (v : ℕ) → label_at labels v ≡ None → (p : List ℕ) → IsWalk g root p v → IsBeyond radius (walk_length g p)

pub record Reached : Type 0 where
  pub labels : List (Option ℕ)
  pub members : List ℕ

pub record IsBall (g : Graph) (root : ℕ) (radius : Option ℕ) (b : Reached) : Type 0 where
  pub labelled : IsLabelled g root radius b.labels
  pub members : (v : ℕ) → Contains b.members v ↔ IsSome (label_at b.labels v)
  pub ascending : IsStrictlyIncreasing b.members

abbrev pub label_within : ℕ → ℕ → Option ℕ
label_within limit x = if nat_le x limit then Some x else None

pub record IsLabelledTo (g : Graph) (root target : ℕ) (values : List ℕ) (distance : ℕ) : Type 0 where
  pub low : distance < 2 ^ 60
  pub dist : IsDist g root target (Some distance)
  pub labelled : IsLabelled g root (Some distance) (map (label_within distance) values)

abbrev pub IsFoundTo : Graph → ℕ → ℕ → List ℕ → Option ℕ → Type 0
IsFoundTo g root target values None = NoWalk g root target
IsFoundTo g root target values (Some distance) = IsLabelledTo g root target values distance

abbrev pub IsBounded : Graph → Option ℕ → Type 0
IsBounded g None = DistsBelow g (2 ^ 58)
IsBounded g (Some r) = r < 2 ^ 60

pub record IsKept (limit : ℕ) (values members : List ℕ) : Type 0 where
  pub low : limit < 2 ^ 60
  pub tracked : IsTracked values members
