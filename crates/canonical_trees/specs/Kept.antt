-- Steps that are kept.
--   step_of_kept k            the step that an entry tells
--   AreSteps g t labels es    each entry that is there is the step of its vertex towards t
--   IsFromTree, IsToTree      a tree from a vertex, or to one, and the steps that it keeps
use Rattle.std.specs.Prelude.{◌≡◌, ℕ, List, Option, Some, None}
use Rattle.std.specs.List.{slice_index_or}
use Rattle.road_model.specs.declared.network.Step.{Step}
use Rattle.road_model.specs.Graph.{Graph, reversed}
use Rattle.tree_search.specs.Ball.{Reached}
use Rattle.canonical_trees.specs.declared.kept.KeptStep.{KeptStep}
use Rattle.canonical_trees.specs.Tight.{IsLeastStep}
use Rattle.canonical_trees.specs.Trees.{IsTreeFrom, IsTreeTo}

abbrev pub step_of_kept : KeptStep → Step
step_of_kept k = record { arc = k.arc; head = k.head; length = k.length }

abbrev pub AreSteps : Graph → ℕ → List (Option ℕ) → List (Option KeptStep) → Type 0
AreSteps g t labels es = (v : ℕ) (k : KeptStep) → slice_index_or es v None ≡ Some k → IsLeastStep g t labels v (step_of_kept k)

pub record IsFromTree (g : Graph) (s : ℕ) (radius : Option ℕ) (b : Reached) (es : List (Option KeptStep)) : Type 0 where
  pub tree : IsTreeFrom g s radius b
  pub steps : AreSteps (reversed g) s b.labels es

pub record IsToTree (g : Graph) (t : ℕ) (radius : Option ℕ) (b : Reached) (es : List (Option KeptStep)) : Type 0 where
  pub tree : IsTreeTo g t radius b
  pub steps : AreSteps g t b.labels es
