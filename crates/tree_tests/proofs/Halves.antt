-- What two sums say of the path through a vertex.
use Rattle.std.proofs.Common.{◌≡◌, ℕ, ◌+◌, ◌==◌, Bool, cond, List, [], ◌∷◌, ◌++◌, IsPermutation, refl, ap, subst, arith}
use Rattle.std.specs.List.{list_any}
use Rattle.std.proofs.lemmas.List.Sums.{sum_by-cons, sum_by-append}
use Rattle.std.proofs.lemmas.List.Sorted.{list_any-IsPermutation}
use Rattle.road_model.specs.Graph.{Graph, length_at}
use Rattle.road_model.specs.Alternatives.{IsVia}
use Rattle.canonical_trees.specs.Trees.{Trees}
use Rattle.tree_tests.specs.declared.sides.Side.TheVariants.{Source, Target}
use Rattle.tree_tests.specs.Sums.{weight_on, carried, IsSumAt}

-- what is carried doesn't depend on the order of the arcs
carried_same : (g : Graph) (o asc p : List ℕ) → IsPermutation o asc → carried g asc p ≡ carried g o p
carried_same g o asc [] moved = refl
carried_same g o asc (a ∷ p) moved =
    let any : list_any (λ b. b == a) o ≡ list_any (λ b. b == a) asc = list_any-IsPermutation (λ b. b == a) o asc moved in
    let one : weight_on g o a ≡ weight_on g asc a = ap (λ (b : Bool). cond b (length_at g a) 0) any in
    omega (arith, sum_by-cons (λ x. weight_on g o x) a p, sum_by-cons (λ x. weight_on g asc x) a p, carried_same g o asc p moved)

pub through_sum : (ts : Trees) (o asc one two : List ℕ) (v a b : ℕ) → IsPermutation o asc → one ≡ asc → two ≡ asc → IsSumAt ts Source one v a → IsSumAt ts Target two v b → (p : List ℕ) → IsVia ts.graph ts.source ts.target v p → a + b ≡ carried ts.graph o p
through_sum ts o asc one two v a b moved is_one is_two from to p via =
    let prefix : a ≡ carried ts.graph asc via.prefix = (subst (λ (l : List ℕ). IsSumAt ts Source l v a) is_one from).is via.prefix via.first in
    let back : b ≡ carried ts.graph asc via.back = (subst (λ (l : List ℕ). IsSumAt ts Target l v b) is_two to).is via.back via.last in
    let whole : carried ts.graph asc p ≡ carried ts.graph asc (via.prefix ++ via.back) = ap (λ (l : List ℕ). carried ts.graph asc l) via.joined in
    omega (arith, sum_by-append (λ x. weight_on ts.graph asc x) via.prefix via.back, carried_same ts.graph o asc p moved)
