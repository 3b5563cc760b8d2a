-- What a walk shares with the optimum, summed along the two trees.
--   weight_on g o a        the length of the arc a, if it is one of o; else 0
--   carried g o p          the lengths of those arcs of p that are among o, each as often as p has it
--   TreePath ts side v p   p is the canonical path between v and the root of that side's tree
--   TreeDist ts side v d   d is the distance between the two
--   IsInTree ts side v     v is inside that side's ball
--   IsUpStep ts side v x   x is the first step from v towards the root; each path of v is that arc and one path of
--                          the vertex that it leads to
--   IsUp ts side v o       Some: such a step; None: v is the root, so its path has no arc
--   IsSumAt ts side o v k  k is what the path of v carries; it isn't above the distance
--   AreSums ts side o sums each sum that is there is that of its vertex
--   AreKept ts o asc from to   the tables of both sides, for the arcs o, which `asc` has in ascending order
--   Shares                 what a clause sees of the sums of a query: the trees, and the arcs of the optimum
use Rattle.std.specs.Prelude.{◌≡◌, ◌≤◌, ◌+◌, ℕ, List, [], Option, Some, None, if◌then◌else◌, ◌==◌}
use Rattle.std.specs.List.{list_any, sum_by, slice_index_or}
use Rattle.std.specs.List.Sorted.{IsPermutation, IsNonDecreasing}
use Rattle.road_model.specs.declared.network.Step.{Step}
use Rattle.road_model.specs.Graph.{Graph, length_at}
use Rattle.road_model.specs.Dist.{IsDist}
use Rattle.road_model.specs.Canonical.{IsFirst, IsLast}
use Rattle.canonical_trees.specs.Trees.{Trees, IsInside}
use Rattle.tree_tests.specs.declared.sides.Side.{Side}
use Rattle.tree_tests.specs.declared.sides.Side.TheVariants.{Source, Target}

abbrev pub weight_on : Graph → List ℕ → ℕ → ℕ
weight_on g o a = if list_any (λ b. b == a) o then length_at g a else 0

abbrev pub carried : Graph → List ℕ → List ℕ → ℕ
carried g o p = sum_by (λ a. weight_on g o a) p

abbrev pub TreePath : Trees → Side → ℕ → List ℕ → Type 0
TreePath ts Source v p = IsFirst ts.graph ts.source p v
TreePath ts Target v p = IsLast ts.graph v p ts.target

abbrev pub TreeDist : Trees → Side → ℕ → ℕ → Type 0
TreeDist ts Source v d = IsDist ts.graph ts.source v (Some d)
TreeDist ts Target v d = IsDist ts.graph v ts.target (Some d)

abbrev pub IsInTree : Trees → Side → ℕ → Type 0
IsInTree ts Source v = IsInside ts.graph ts.radius ts.source v
IsInTree ts Target v = IsInside ts.graph ts.radius v ts.target

pub record IsUpStep (ts : Trees) (side : Side) (v : ℕ) (x : Step) : Type 0 where
  pub inside : IsInTree ts side x.head
  pub length : length_at ts.graph x.arc ≡ x.length
  pub some : 1 ≤ x.length
  pub whole : List ℕ
  pub whole_path : TreePath ts side v whole
  pub rest : List ℕ
  pub path : TreePath ts side x.head rest
  pub carries : (o p : List ℕ) → TreePath ts side v p → carried ts.graph o p ≡ carried ts.graph o rest + weight_on ts.graph o x.arc
  pub nearer : (a b : ℕ) → TreeDist ts side v a → TreeDist ts side x.head b → a ≡ b + x.length

abbrev pub IsUp : Trees → Side → ℕ → Option Step → Type 0
IsUp ts side v None = (p : List ℕ) → TreePath ts side v p → p ≡ []
IsUp ts side v (Some x) = IsUpStep ts side v x

pub record IsSumAt (ts : Trees) (side : Side) (o : List ℕ) (v k : ℕ) : Type 0 where
  pub is : (p : List ℕ) → TreePath ts side v p → k ≡ carried ts.graph o p
  pub low : (d : ℕ) → TreeDist ts side v d → k ≤ d

abbrev pub AreSums : Trees → Side → List ℕ → List (Option ℕ) → Type 0
AreSums ts side o sums = (v k : ℕ) → slice_index_or sums v None ≡ Some k → IsSumAt ts side o v k

pub record Shares : Type 0 where
  pub trees : Trees
  pub optimum : List ℕ

pub record AreKept (ts : Trees) (o ascending : List ℕ) (from to : List (Option ℕ)) : Type 0 where
  pub same : IsPermutation o ascending
  pub rising : IsNonDecreasing ascending
  pub sums_from : AreSums ts Source ascending from
  pub sums_to : AreSums ts Target ascending to
