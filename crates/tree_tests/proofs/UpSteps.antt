-- One step towards the root of a tree, whichever tree it is.
use Rattle.std.proofs.Common.{◌≡◌, ℕ, ◌+◌, ◌≤◌, ◌==◌, List, [], ◌∷◌, ◌++◌, Option, Some, None, sym, ap, ◌∙◌, subst, arith, ⊎_elim}
use Rattle.std.specs.List.{list_any}
use Rattle.std.proofs.lemmas.List.Sums.{sum_by-cons, sum_by_push, sum_by-le-sum_by}
use Rattle.road_model.specs.declared.network.Step.{Step}
use Rattle.road_model.specs.Graph.{Graph, IsGraph, length_at, row_length}
use Rattle.road_model.specs.Walk.{walk_length}
use Rattle.road_model.specs.Canonical.{IsFirst, IsLast}
use Rattle.road_model.proofs.Walks.{IsArc-at, walk_length-append, walk_length-sum_by}
use Rattle.road_model.proofs.Dists.{IsDist-same, dist_of_shortest}
use Rattle.road_model.proofs.CanonicalWalks.{IsFirst-unique, IsLast-unique}
use Rattle.road_model.proofs.Basics.{cond-le}
use Rattle.canonical_trees.specs.Trees.{Trees, IsInside, IsOutside, IsLastStep, IsFirstStep, IsFromStep, IsToStep}
use Rattle.canonical_trees.proofs.Canonical.{IsLast-nil}
use Rattle.canonical_trees.proofs.Balls.{apart}
use Rattle.canonical_trees.proofs.CanonicalParts.{IsFirst-nil, inside_before, inside_after}
use Rattle.tree_tests.specs.declared.sides.Side.{Side}
use Rattle.tree_tests.specs.declared.sides.Side.TheVariants.{Source, Target}
use Rattle.tree_tests.specs.Sums.{weight_on, carried, TreePath, TreeDist, IsInTree, IsUpStep, IsUp}

pub TreePath-unique : (ts : Trees) (side : Side) (v : ℕ) (p q : List ℕ) → TreePath ts side v p → TreePath ts side v q → p ≡ q
TreePath-unique ts Source v p q h k = IsFirst-unique ts.graph ts.source v p q h k
TreePath-unique ts Target v p q h k = IsLast-unique ts.graph v ts.target p q h k

pub TreeDist-same : (ts : Trees) (side : Side) (v a b : ℕ) → TreeDist ts side v a → TreeDist ts side v b → a ≡ b
TreeDist-same ts Source v a b h k = IsDist-same ts.graph ts.source v a b h k
TreeDist-same ts Target v a b h k = IsDist-same ts.graph v ts.target a b h k

pub weight-le : (g : Graph) (o : List ℕ) (a : ℕ) → weight_on g o a ≤ length_at g a
weight-le g o a = cond-le (list_any (λ b. b == a) o) (length_at g a)

pub carried-le : (g : Graph) (o p : List ℕ) → carried g o p ≤ walk_length g p
carried-le g o p =
    subst (λ (n : ℕ). carried g o p ≤ n) (sym (walk_length-sum_by g p))
    (sum_by-le-sum_by (λ a. weight_on g o a) (λ a. length_at g a) p (λ a. weight-le g o a))

pub carried_low : (ts : Trees) (side : Side) (o : List ℕ) (v d : ℕ) (p : List ℕ) → TreePath ts side v p → TreeDist ts side v d → carried ts.graph o p ≤ d
carried_low ts Source o v d p h dist =
    omega (arith, carried-le ts.graph o p, IsDist-same ts.graph ts.source v (walk_length ts.graph p) d (dist_of_shortest ts.graph ts.source v p h.shortest) dist)
carried_low ts Target o v d p h dist =
    omega (arith, carried-le ts.graph o p, IsDist-same ts.graph v ts.target (walk_length ts.graph p) d (dist_of_shortest ts.graph v ts.target p h.shortest) dist)

up_last : (ts : Trees) (v : ℕ) (x : Step) → IsGraph ts.graph → IsLastStep ts.graph ts.radius ts.source v x → IsUpStep ts Source v x
up_last ts v x sound h =
    let long : length_at ts.graph x.arc ≡ x.length = ap row_length h.arc in
    record {
      inside = inside_before ts.graph ts.radius ts.source x.head v h.prefix (x.arc ∷ []) h.path h.beyond h.inside;
      length = long;
      some = (IsArc-at ts.graph x.arc (record { tail = x.head; head = v; length = x.length }) sound h.arc).positive;
      whole = h.prefix ++ x.arc ∷ [];
      whole_path = h.path;
      rest = h.prefix;
      path = h.beyond;
      carries = (λ o p path.
          let is : p ≡ h.prefix ++ x.arc ∷ [] = IsFirst-unique ts.graph ts.source v p (h.prefix ++ x.arc ∷ []) path h.path in
          ap (λ (l : List ℕ). carried ts.graph o l) is ∙ sum_by_push (λ a. weight_on ts.graph o a) h.prefix x.arc);
      nearer = (λ a b da db.
          let one : walk_length ts.graph (h.prefix ++ x.arc ∷ []) ≡ a = IsDist-same ts.graph ts.source v (walk_length ts.graph (h.prefix ++ x.arc ∷ [])) a (dist_of_shortest ts.graph ts.source v (h.prefix ++ x.arc ∷ []) h.path.shortest) da in
          let two : walk_length ts.graph h.prefix ≡ b = IsDist-same ts.graph ts.source x.head (walk_length ts.graph h.prefix) b (dist_of_shortest ts.graph ts.source x.head h.prefix h.beyond.shortest) db in
          omega (arith, walk_length-append ts.graph h.prefix (x.arc ∷ []), long));
    }

up_first : (ts : Trees) (v : ℕ) (x : Step) → IsGraph ts.graph → IsFirstStep ts.graph ts.radius v ts.target x → IsUpStep ts Target v x
up_first ts v x sound h =
    let long : length_at ts.graph x.arc ≡ x.length = ap row_length h.arc in
    record {
      inside = inside_after ts.graph ts.radius v x.head ts.target (x.arc ∷ []) h.back h.path h.beyond h.inside;
      length = long;
      some = (IsArc-at ts.graph x.arc (record { tail = v; head = x.head; length = x.length }) sound h.arc).positive;
      whole = x.arc ∷ h.back;
      whole_path = h.path;
      rest = h.back;
      path = h.beyond;
      carries = (λ o p path.
          let is : p ≡ x.arc ∷ h.back = IsLast-unique ts.graph v ts.target p (x.arc ∷ h.back) path h.path in
          let sum = sum_by-cons (λ a. weight_on ts.graph o a) x.arc h.back in
          let same : carried ts.graph o p ≡ carried ts.graph o (x.arc ∷ h.back) = ap (λ (l : List ℕ). carried ts.graph o l) is in
          omega (arith, sum));
      nearer = (λ a b da db.
          let one : walk_length ts.graph (x.arc ∷ h.back) ≡ a = IsDist-same ts.graph v ts.target (walk_length ts.graph (x.arc ∷ h.back)) a (dist_of_shortest ts.graph v ts.target (x.arc ∷ h.back) h.path.shortest) da in
          let two : walk_length ts.graph h.back ≡ b = IsDist-same ts.graph x.head ts.target (walk_length ts.graph h.back) b (dist_of_shortest ts.graph x.head ts.target h.back h.beyond.shortest) db in
          omega (arith, one, two, long));
    }

pub up_from : (ts : Trees) (v : ℕ) (o : Option Step) → IsGraph ts.graph → IsInside ts.graph ts.radius ts.source v → IsFromStep ts.graph ts.radius ts.source v o → IsUp ts Source v o
up_from ts v None sound inside h = λ p path.
    ⊎_elim
    (λ (same : v ≡ ts.source). IsFirst-unique ts.graph ts.source v p [] path (subst (λ (x : ℕ). IsFirst ts.graph ts.source [] x) (sym same) (IsFirst-nil ts.graph ts.source)))
    (λ (out : IsOutside ts.graph ts.radius ts.source v). absurd (apart ts.graph ts.radius ts.source v inside out))
    h
up_from ts v (Some x) sound inside h = up_last ts v x sound h

pub up_to : (ts : Trees) (v : ℕ) (o : Option Step) → IsGraph ts.graph → IsInside ts.graph ts.radius v ts.target → IsToStep ts.graph ts.radius v ts.target o → IsUp ts Target v o
up_to ts v None sound inside h = λ p path.
    ⊎_elim
    (λ (same : v ≡ ts.target). IsLast-unique ts.graph v ts.target p [] path (subst (λ (x : ℕ). IsLast ts.graph x [] ts.target) (sym same) (IsLast-nil ts.graph ts.target)))
    (λ (out : IsOutside ts.graph ts.radius v ts.target). absurd (apart ts.graph ts.radius v ts.target inside out))
    h
up_to ts v (Some x) sound inside h = up_first ts v x sound h

pub up_at : (ts : Trees) (side is : Side) (v : ℕ) (o : Option Step) → side ≡ is → IsUp ts is v o → IsUp ts side v o
up_at ts side is v o same h = subst (λ (x : Side). IsUp ts x v o) (sym same) h

pub inside_at : (ts : Trees) (side is : Side) (v : ℕ) → side ≡ is → IsInTree ts side v → IsInTree ts is v
inside_at ts side is v same h = subst (λ (x : Side). IsInTree ts x v) same h
