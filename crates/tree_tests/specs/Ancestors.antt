-- Vertices on the way from a vertex to a root.
--   opposite side         the other side
--   Joins side part own whole   whole is the path own, between the root and a vertex, together with the part between that
--                         vertex and another one
--   IsOn ts side y v      y lies on the canonical path between v and the root of that side's tree
--   IsParent ts side v o  Some: a vertex that lies on the path of v; None says nothing
--   IsAncestor ts side v a   both vertices of the entry lie on it
--   IsEntry ts side v o   Some: such an entry; None says nothing
--   AreAncestors ts side es  each entry that is there is of its vertex
--   AreWays ts from to    the entries of both sides
--   IsLifted ts side a b  whatever vertex a lies on the path of, b does too
--   AreLifted             the same of two at once
--   AreHigher             Some: the same of the two that were found; None says nothing
--   IsMet, IsAhead        Some: such a vertex; None says nothing
use Rattle.std.specs.Prelude.{◌≡◌, ℕ, List, ◌++◌, Option, Some, None}
use Rattle.std.specs.List.{slice_index_or}
use Rattle.canonical_trees.specs.Trees.{Trees}
use Rattle.tree_tests.specs.declared.sides.Side.{Side}
use Rattle.tree_tests.specs.declared.sides.Side.TheVariants.{Source, Target}
use Rattle.tree_tests.specs.declared.ancestors.Ancestor.{Ancestor}
use Rattle.tree_tests.specs.declared.ancestors.Two.{Two}
use Rattle.tree_tests.specs.Sums.{TreePath}

abbrev pub opposite : Side → Side
opposite Source = Target
opposite Target = Source

abbrev pub Joins : Side → List ℕ → List ℕ → List ℕ → Type 0
Joins Source part own whole = whole ≡ own ++ part
Joins Target part own whole = whole ≡ part ++ own

pub record IsOn (ts : Trees) (side : Side) (y v : ℕ) : Type 0 where
  pub own : List ℕ
  pub part : List ℕ
  pub whole : List ℕ
  pub near : TreePath ts side y own
  pub far : TreePath ts side v whole
  pub joined : Joins side part own whole

abbrev pub IsParent : Trees → Side → ℕ → Option ℕ → Type 0
IsParent ts side v None = Unit {0}
IsParent ts side v (Some u) = IsOn ts side u v

pub record IsAncestor (ts : Trees) (side : Side) (v : ℕ) (a : Ancestor) : Type 0 where
  pub parent : IsOn ts side a.parent v
  pub jump : IsOn ts side a.jump v

abbrev pub IsEntry : Trees → Side → ℕ → Option Ancestor → Type 0
IsEntry ts side v None = Unit {0}
IsEntry ts side v (Some a) = IsAncestor ts side v a

abbrev pub AreAncestors : Trees → Side → List (Option Ancestor) → Type 0
AreAncestors ts side es = (v : ℕ) (a : Ancestor) → slice_index_or es v None ≡ Some a → IsAncestor ts side v a

abbrev pub IsLifted : Trees → Side → ℕ → ℕ → Type 0
IsLifted ts side a b = (v : ℕ) → IsOn ts side a v → IsOn ts side b v

pub record AreLifted (ts : Trees) (side : Side) (old new : Two) : Type 0 where
  pub first : IsLifted ts side old.first new.first
  pub second : IsLifted ts side old.second new.second

abbrev pub AreHigher : Trees → Side → Two → Option Two → Type 0
AreHigher ts side old None = Unit {0}
AreHigher ts side old (Some new) = AreLifted ts side old new

abbrev pub IsMet : Trees → Side → ℕ → ℕ → Option ℕ → Type 0
IsMet ts side w x None = Unit {0}
IsMet ts side w x (Some y) = IsOn ts side y w × IsOn ts side y x

abbrev pub IsAhead : Trees → Side → ℕ → Option ℕ → Type 0
IsAhead ts side x None = Unit {0}
IsAhead ts side x (Some y) = IsLifted ts side x y

pub record AreWays (ts : Trees) (from to : List (Option Ancestor)) : Type 0 where
  pub from_source : AreAncestors ts Source from
  pub to_target : AreAncestors ts Target to
