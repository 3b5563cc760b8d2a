-- Going down to a vertex by its distances: the arcs that a walk takes there.
--   IsTight g t v a r near       the arc a, of the row r, is the first of some shortest walk from v to t; near is
--                                the distance from its head
--   IsLeastTight g t v a r near  and no arc of a lower number is one
--   IsRooted g t labels          each label is the distance to t, and whatever is nearer than a label has one
--   HasTightLabel labels left s  the label of the head of s and the length of s make what is left
--   IsLeastStep g t labels v s   the step s is the least tight arc out of v, which has a label and isn't t
--   IsStepDown                   Some: such a step; None: v is t, or has no label
--   AddsPath g t v old new           the list goes on with the canonical path from v to t
use Rattle.std.specs.Prelude.{◌≡◌, ◌≢◌, ◌<◌, ◌≤◌, ◌⊎◌, ◌+◌, ◌^◌, ℕ, List, ◌++◌, Option, Some, None}
use Rattle.road_model.specs.declared.rows.ArcRow.{ArcRow}
use Rattle.road_model.specs.declared.network.Step.{Step}
use Rattle.road_model.specs.Graph.{Graph, arc_at, IsGraph, arc_count}
use Rattle.road_model.specs.Walk.{IsWalk, walk_length}
use Rattle.road_model.specs.Dist.{IsDist}
use Rattle.road_model.specs.Canonical.{IsLast}
use Rattle.tree_search.specs.Ball.{label_at}

pub record IsTight (g : Graph) (t v a : ℕ) (r : ArcRow) (near : ℕ) : Type 0 where
  pub is : arc_at g a ≡ Some r
  pub tail : r.tail ≡ v
  pub beyond : IsDist g r.head t (Some near)
  pub whole : IsDist g v t (Some (r.length + near))

pub record IsLeastTight (g : Graph) (t v a : ℕ) (r : ArcRow) (near : ℕ) : Type 0 where
  pub tight : IsTight g t v a r near
  pub least : (b : ℕ) (x : ArcRow) (k : ℕ) → IsTight g t v b x k → a ≤ b

pub record IsRooted (g : Graph) (t : ℕ) (labels : List (Option ℕ)) : Type 0 where
  pub sound : IsGraph g
  pub few : arc_count g < 2 ^ 32
  pub exact : (v k : ℕ) → label_at labels v ≡ Some k → IsDist g v t (Some k)
  pub reach : (u v k : ℕ) (p : List ℕ) → label_at labels u ≡ None → IsWalk g u p t → label_at labels v ≡ Some k → k < walk_length g p

pub record HasTightLabel (labels : List (Option ℕ)) (left : ℕ) (s : Step) : Type 0 where
  pub near : ℕ
  pub label : label_at labels s.head ≡ Some near
  pub sum : s.length + near ≡ left

pub record IsLeastStep (g : Graph) (t : ℕ) (labels : List (Option ℕ)) (v : ℕ) (s : Step) : Type 0 where
  pub row : ArcRow
  pub near : ℕ
  pub head : s.head ≡ row.head
  pub long : s.length ≡ row.length
  pub least : IsLeastTight g t v s.arc row near
  pub other : v ≢ t
  pub label : label_at labels v ≡ Some (s.length + near)
  pub beyond : label_at labels s.head ≡ Some near

abbrev pub IsStepDown : Graph → ℕ → List (Option ℕ) → ℕ → Option Step → Type 0
IsStepDown g t labels v None = (v ≡ t) ⊎ (label_at labels v ≡ None)
IsStepDown g t labels v (Some s) = IsLeastStep g t labels v s

pub record AddsPath (g : Graph) (t v : ℕ) (old new : List ℕ) : Type 0 where
  pub walk : List ℕ
  pub is : new ≡ old ++ walk
  pub last : IsLast g v walk t
