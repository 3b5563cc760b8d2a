-- Steps that are kept.
use Rattle.std.proofs.Common.{◌≡◌, ℕ, List, Option, Some, None, sym, ◌∙◌, subst}
use Rattle.road_model.specs.Graph.{Graph, LengthsBelow, reversed}
use Rattle.road_model.specs.File.{IsWithinLimits}
use Rattle.forward_star.proofs.Turned.{LengthsBelow-reversed}
use Rattle.stamped_table.specs.Tables.{IsEmpty}
use Rattle.tree_search.specs.Ball.{Reached}
use Rattle.canonical_trees.specs.declared.kept.KeptStep.{KeptStep}
use Rattle.canonical_trees.specs.Kept.{AreSteps}

pub none_kept : (g : Graph) (t : ℕ) (labels : List (Option ℕ)) (es : List (Option KeptStep)) → IsEmpty es → AreSteps g t labels es
none_kept g t labels es none v k is = absurd (let e : None ≡ Some k = sym (none v) ∙ is in cc)

-- the steps of a tree, in the names of the code
pub steps_from_tree : (g h : Graph) (s : ℕ) (b : Reached) (labels : List (Option ℕ)) (es : List (Option KeptStep)) → h ≡ reversed g → labels ≡ b.labels → AreSteps (reversed g) s b.labels es → AreSteps h s labels es
steps_from_tree g h s b labels es same kept all =
    subst (λ (x : Graph). AreSteps x s labels es) (sym same)
    (subst (λ (l : List (Option ℕ)). AreSteps (reversed g) s l es) (sym kept) all)

pub steps_to_tree : (g : Graph) (t : ℕ) (b : Reached) (labels : List (Option ℕ)) (es : List (Option KeptStep)) → labels ≡ b.labels → AreSteps g t b.labels es → AreSteps g t labels es
steps_to_tree g t b labels es kept all =
    subst (λ (l : List (Option ℕ)). AreSteps g t l es) (sym kept) all

pub short_turned : (g h : Graph) → IsWithinLimits g → h ≡ reversed g → LengthsBelow h 4294967296
short_turned g h limits is =
    subst (λ (x : Graph). LengthsBelow x 4294967296) (sym is) (LengthsBelow-reversed g 4294967296 limits.short)
