-- Going back to the source of distances: the arcs that a walk takes there, from its end on.
--   LeavesRest left length d   d is a distance, which the length and it make up to what is left
--   IsStepBack g s v left x    the step x is the least arc into v that some shortest walk from s ends with; left is the
--                              distance from s to v, and with the length of x that to its head, the arc's tail
use Rattle.std.specs.Prelude.{◌≡◌, ◌+◌, ℕ, Option, Some, None}
use Rattle.road_model.specs.declared.rows.ArcRow.{ArcRow}
use Rattle.road_model.specs.declared.network.Step.{Step}
use Rattle.road_model.specs.Graph.{Graph, reversed}
use Rattle.canonical_trees.specs.Tight.{IsLeastTight}

abbrev pub LeavesRest : ℕ → ℕ → Option ℕ → Type 0
LeavesRest left length None = ⊥
LeavesRest left length (Some near) = length + near ≡ left

pub record IsStepBack (g : Graph) (s v left : ℕ) (x : Step) : Type 0 where
  pub row : ArcRow
  pub near : ℕ
  pub head : x.head ≡ row.head
  pub long : x.length ≡ row.length
  pub sum : x.length + near ≡ left
  pub least : IsLeastTight (reversed g) s v x.arc row near
