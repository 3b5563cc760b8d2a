-- Vertices on the way of others to a root.
use Rattle.std.proofs.Common.{◌≡◌, ℕ, List, [], ◌∷◌, ◌++◌, Option, Some, None, refl, sym, ap, ◌∙◌, subst, append_assoc}
use Rattle.std.specs.List.{slice_index_or}
use Rattle.std.proofs.lemmas.List.{append-nil}
use Rattle.road_model.specs.declared.network.Step.{Step}
use Rattle.road_model.specs.Graph.{IsGraph}
use Rattle.road_model.specs.Alternatives.{IsVia}
use Rattle.canonical_trees.proofs.CanonicalExists.{first_of_dist, last_of_dist}
use Rattle.canonical_trees.specs.Trees.{Trees, IsLastStep, IsFirstStep, IsFromStep, IsToStep}
use Rattle.tree_tests.specs.declared.sides.Side.{Side}
use Rattle.tree_tests.specs.declared.sides.Side.TheVariants.{Source, Target}
use Rattle.tree_tests.specs.declared.ancestors.Ancestor.{Ancestor}
use Rattle.tree_tests.specs.declared.ancestors.Two.{Two}
use Rattle.tree_tests.specs.Sums.{TreePath, TreeDist}
use Rattle.tree_tests.specs.Ancestors.{IsOn, IsParent, IsAncestor, IsEntry, AreAncestors, IsLifted, AreLifted, AreHigher, IsMet, IsAhead}
use Rattle.stamped_table.specs.Tables.{IsEmpty}
use Rattle.tree_tests.proofs.UpSteps.{TreePath-unique}

pub on_from : (ts : Trees) (v : ℕ) (o : Option Step) (x : Step) → IsFromStep ts.graph ts.radius ts.source v o → o ≡ Some x → IsOn ts Source x.head v
on_from ts v o x h is =
    let step : IsLastStep ts.graph ts.radius ts.source v x = subst (λ (s : Option Step). IsFromStep ts.graph ts.radius ts.source v s) is h in
    record { own = step.prefix; part = x.arc ∷ []; whole = step.prefix ++ x.arc ∷ []; near = step.beyond; far = step.path; joined = refl }

pub on_to : (ts : Trees) (v : ℕ) (o : Option Step) (x : Step) → IsToStep ts.graph ts.radius v ts.target o → o ≡ Some x → IsOn ts Target x.head v
on_to ts v o x h is =
    let step : IsFirstStep ts.graph ts.radius v ts.target x = subst (λ (s : Option Step). IsToStep ts.graph ts.radius v ts.target s) is h in
    record { own = step.back; part = x.arc ∷ []; whole = x.arc ∷ step.back; near = step.beyond; far = step.path; joined = refl }

pub on_side : (ts : Trees) (side which : Side) (y v : ℕ) → side ≡ which → IsOn ts which y v → IsOn ts side y v
on_side ts side which y v e h = subst (λ (s : Side). IsOn ts s y v) (sym e) h

pub on_trans : (ts : Trees) (side : Side) (y v w : ℕ) → IsOn ts side y v → IsOn ts side v w → IsOn ts side y w
on_trans ts Source y v w h k =
    let same : k.own ≡ h.whole = TreePath-unique ts Source v k.own h.whole k.near h.far in
    record {
      own = h.own;
      part = h.part ++ k.part;
      whole = k.whole;
      near = h.near;
      far = k.far;
      joined = k.joined ∙ ap (λ (p : List ℕ). p ++ k.part) (same ∙ h.joined) ∙ append_assoc h.own h.part k.part;
    }
on_trans ts Target y v w h k =
    let same : k.own ≡ h.whole = TreePath-unique ts Target v k.own h.whole k.near h.far in
    record {
      own = h.own;
      part = k.part ++ h.part;
      whole = k.whole;
      near = h.near;
      far = k.far;
      joined = k.joined ∙ ap (λ (p : List ℕ). k.part ++ p) (same ∙ h.joined) ∙ sym (append_assoc k.part h.part h.own);
    }

pub on_itself : (ts : Trees) (side : Side) (v : ℕ) (p : List ℕ) → TreePath ts side v p → IsOn ts side v v
on_itself ts Source v p h = record { own = p; part = []; whole = p; near = h; far = h; joined = sym (append-nil p) }
on_itself ts Target v p h = record { own = p; part = []; whole = p; near = h; far = h; joined = refl }

pub on_own : (ts : Trees) (side : Side) (y v : ℕ) → IsOn ts side y v → IsOn ts side y y
on_own ts side y v h = on_itself ts side y h.own h.near

pub lifted_itself : (ts : Trees) (side : Side) (a : ℕ) → IsLifted ts side a a
lifted_itself ts side a v h = h

pub lifted_by : (ts : Trees) (side : Side) (a b : ℕ) → IsOn ts side b a → IsLifted ts side a b
lifted_by ts side a b h v k = on_trans ts side b a v h k

pub lifted_both : (ts : Trees) (side : Side) (a b c : ℕ) → IsLifted ts side a b → IsLifted ts side b c → IsLifted ts side a c
lifted_both ts side a b c h k v on = k v (h v on)

pub entry_at : (ts : Trees) (side : Side) (es : List (Option Ancestor)) (v : ℕ) (o : Option Ancestor) (a : Ancestor) → AreAncestors ts side es → o ≡ slice_index_or es v None → o ≡ Some a → IsAncestor ts side v a
entry_at ts side es v o a all is some = all v a (sym is ∙ some)

pub higher_some : (ts : Trees) (side : Side) (two : Two) (o : Option Two) (new : Two) → AreHigher ts side two o → o ≡ Some new → AreLifted ts side two new
higher_some ts side two o new h is = subst (λ (x : Option Two). AreHigher ts side two x) is h

pub parent_some : (ts : Trees) (side : Side) (v : ℕ) (o : Option ℕ) (u : ℕ) → IsParent ts side v o → o ≡ Some u → IsOn ts side u v
parent_some ts side v o u h is = subst (λ (x : Option ℕ). IsParent ts side v x) is h

pub entry_some : (ts : Trees) (side : Side) (v : ℕ) (o : Option Ancestor) (a : Ancestor) → IsEntry ts side v o → o ≡ Some a → IsAncestor ts side v a
entry_some ts side v o a h is = subst (λ (x : Option Ancestor). IsEntry ts side v x) is h

pub on_of_dist : (ts : Trees) (side : Side) (v d : ℕ) → IsGraph ts.graph → TreeDist ts side v d → IsOn ts side v v
on_of_dist ts Source v d sound h = (let found = first_of_dist ts.graph ts.source v d sound h in on_itself ts Source v found.path found.first)
on_of_dist ts Target v d sound h = (let found = last_of_dist ts.graph v ts.target d sound h in on_itself ts Target v found.path found.last)

pub met_some : (ts : Trees) (side : Side) (w x : ℕ) (o : Option ℕ) (y : ℕ) → IsMet ts side w x o → o ≡ Some y → IsOn ts side y w × IsOn ts side y x
met_some ts side w x o y h is = subst (λ (z : Option ℕ). IsMet ts side w x z) is h

pub ahead_some : (ts : Trees) (side : Side) (x : ℕ) (o : Option ℕ) (y : ℕ) → IsAhead ts side x o → o ≡ Some y → IsLifted ts side x y
ahead_some ts side x o y h is = subst (λ (z : Option ℕ). IsAhead ts side x z) is h

pub none_known : (ts : Trees) (side : Side) (es : List (Option Ancestor)) → IsEmpty es → AreAncestors ts side es
none_known ts side es none v a is = absurd (let e : None ≡ Some a = sym (none v) ∙ is in cc)

-- a vertex through which a path leads lies on its own ways
pub on_of_via : (ts : Trees) (side : Side) (w : ℕ) (p : List ℕ) → IsVia ts.graph ts.source ts.target w p → IsOn ts side w w
on_of_via ts Source w p h = on_itself ts Source w h.prefix h.first
on_of_via ts Target w p h = on_itself ts Target w h.back h.last
