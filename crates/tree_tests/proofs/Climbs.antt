-- The sum of a vertex, by a climb towards the root.
use Rattle.std.proofs.Common.{◌≡◌, ◌≢◌, ℕ, ◌+◌, ◌-◌, ◌<◌, ◌≤◌, ◌==◌, true, false, cond, List, length, get_or, Option, Some, None, refl, sym, ap, ◌∙◌, subst, arith, ⊎_elim, get_or-set_other, get_or-set_same}
use Rattle.std.specs.List.{list_any, slice_index_or, slice_set}
use Rattle.std.proofs.lemmas.Bool.{cases_lt, cases_eq, eq-eqb, ne_eqb}
use Rattle.std.proofs.lemmas.List.{get_or_default, set_past}
use Rattle.std.proofs.lemmas.List.Folds.{list_any_at, list_any_none}
use Rattle.road_model.specs.declared.network.Step.{Step}
use Rattle.road_model.specs.Graph.{length_at}
use Rattle.canonical_trees.specs.Trees.{Trees}
use Rattle.tree_tests.specs.declared.sides.Side.{Side}
use Rattle.tree_tests.specs.Sums.{weight_on, carried, TreePath, TreeDist, IsInTree, IsUpStep, IsUp, IsSumAt, AreSums}
use Rattle.tree_tests.proofs.UpSteps.{TreePath-unique, TreeDist-same, carried_low, weight-le}

abbrev pub step_weight : List ℕ → Step → ℕ
step_weight o x = cond (list_any (λ b. b == x.arc) o) x.length 0

pub weight_is : (ts : Trees) (side : Side) (o : List ℕ) (v : ℕ) (x : Step) → IsUpStep ts side v x → step_weight o x ≡ weight_on ts.graph o x.arc
weight_is ts side o v x up = ap (λ (n : ℕ). cond (list_any (λ b. b == x.arc) o) n 0) (sym up.length)

-- the way from v up to here carries the sum
pub record HasUp (ts : Trees) (side : Side) (o : List ℕ) (at total sum : ℕ) : Type 0 where
  pub path : List ℕ
  pub tree : TreePath ts side at path
  pub same : total ≡ carried ts.graph o path + sum

pub record OnClimb (ts : Trees) (side : Side) (o : List ℕ) (v at near sum : ℕ) : Type 0 where
  pub inside : IsInTree ts side at
  pub dist : TreeDist ts side at near
  pub is : (q : List ℕ) → TreePath ts side v q → HasUp ts side o at (carried ts.graph o q) sum
  pub low : (d : ℕ) → TreeDist ts side v d → sum + near ≤ d

pub climb_start : (ts : Trees) (side : Side) (o : List ℕ) (v near : ℕ) → IsInTree ts side v → TreeDist ts side v near → OnClimb ts side o v v near 0
climb_start ts side o v near inside dist =
    record {
      inside = inside;
      dist = dist;
      is = (λ q tree. record { path = q; tree = tree; same = omega arith });
      low = (λ d other. omega (arith, TreeDist-same ts side v near d dist other));
    }

pub climb_more : (ts : Trees) (side : Side) (o : List ℕ) (v at near sum now add : ℕ) (x : Step) → IsUpStep ts side at x → TreeDist ts side x.head now → add ≡ step_weight o x → OnClimb ts side o v at near sum → OnClimb ts side o v x.head now (sum + add)
climb_more ts side o v at near sum now add x up dist is h =
    let weight : add ≡ weight_on ts.graph o x.arc = is ∙ weight_is ts side o at x up in
    let long : length_at ts.graph x.arc ≡ x.length = up.length in
    let part : near ≡ now + x.length = up.nearer near now h.dist dist in
    record {
      inside = up.inside;
      dist = dist;
      is = (λ q tree.
          let old = h.is q tree in
          record { path = up.rest; tree = up.path; same = omega (arith, old.same, up.carries o old.path old.tree) });
      low = (λ d other. omega (arith, h.low d other, weight-le ts.graph o x.arc));
    }

-- a step adds no more than is left
pub add_fits : (ts : Trees) (side : Side) (o : List ℕ) (v at near sum add d : ℕ) (x : Step) → IsUpStep ts side at x → TreeDist ts side v d → add ≡ step_weight o x → OnClimb ts side o v at near sum → sum + add ≤ d
add_fits ts side o v at near sum add d x up dist is h =
    let weight : add ≡ weight_on ts.graph o x.arc = is ∙ weight_is ts side o at x up in
    omega (arith, h.low d dist, up.carries o up.whole up.whole_path, carried_low ts side o at near up.whole up.whole_path h.dist)

pub climb_known : (ts : Trees) (side : Side) (o : List ℕ) (v at near sum rest : ℕ) → IsSumAt ts side o at rest → OnClimb ts side o v at near sum → IsSumAt ts side o v (sum + rest)
climb_known ts side o v at near sum rest known h =
    record {
      is = (λ q tree.
          let old = h.is q tree in
          omega (arith, old.same, known.is old.path old.tree));
      low = (λ d dist. omega (arith, h.low d dist, known.low near h.dist));
    }

pub climb_root : (ts : Trees) (side : Side) (o : List ℕ) (v at near sum : ℕ) → IsUp ts side at None → OnClimb ts side o v at near sum → IsSumAt ts side o v sum
climb_root ts side o v at near sum root h =
    record {
      is = (λ q tree.
          let old = h.is q tree in
          let none : carried ts.graph o old.path ≡ 0 = ap (λ (l : List ℕ). carried ts.graph o l) (root old.path old.tree) in
          omega (arith, old.same));
      low = (λ d dist. omega (arith, h.low d dist));
    }

-- a table that gets one more right sum is right
sums_set : (ts : Trees) (side : Side) (o : List ℕ) (sums : List (Option ℕ)) (v k : ℕ) → v < length sums → AreSums ts side o sums → IsSumAt ts side o v k → AreSums ts side o (slice_set sums v (Some k))
sums_set ts side o sums v k inside h own w j is =
    ⊎_elim
    (λ (same : w ≡ v).
    let here : slice_index_or (slice_set sums v (Some k)) v None ≡ Some k = rw get_or-set_same refl in
    let both : Some j ≡ Some k = sym is ∙ (ap (λ (n : ℕ). slice_index_or (slice_set sums v (Some k)) n None) same ∙ here) in
    let sum : k ≡ j = cc in
    subst (λ (n : ℕ). IsSumAt ts side o n j) (sym same) (subst (λ (n : ℕ). IsSumAt ts side o v n) sum own))
    (λ (other : w ≡ v → ⊥).
    let ne : w ≢ v = other in
    let there : slice_index_or (slice_set sums v (Some k)) w None ≡ slice_index_or sums w None = rw get_or-set_other refl in
    h w j (sym there ∙ is))
    (cases_eq w v)

-- the vertex that a step leads to carries what the step doesn't
pub record OnFill (ts : Trees) (side : Side) (o : List ℕ) (at near left : ℕ) (sums : List (Option ℕ)) : Type 0 where
  pub inside : IsInTree ts side at
  pub dist : TreeDist ts side at near
  pub sum : IsSumAt ts side o at left
  pub table : AreSums ts side o sums

pub weight_fits : (ts : Trees) (side : Side) (o : List ℕ) (v add left : ℕ) (x : Step) → IsUpStep ts side v x → add ≡ step_weight o x → IsSumAt ts side o v left → add ≤ left
weight_fits ts side o v add left x up is h =
    let weight : add ≡ weight_on ts.graph o x.arc = is ∙ weight_is ts side o v x up in
    omega (arith, h.is up.whole up.whole_path, up.carries o up.whole up.whole_path)

pub sum_beyond : (ts : Trees) (side : Side) (o : List ℕ) (v add left : ℕ) (x : Step) → IsUpStep ts side v x → add ≡ step_weight o x → IsSumAt ts side o v left → IsSumAt ts side o x.head (left - add)
sum_beyond ts side o v add left x up is h =
    let weight : add ≡ weight_on ts.graph o x.arc = is ∙ weight_is ts side o v x up in
    let rest : left - add ≡ carried ts.graph o up.rest = omega (arith, h.is up.whole up.whole_path, up.carries o up.whole up.whole_path) in
    record {
      is = (λ p tree. rest ∙ ap (λ (l : List ℕ). carried ts.graph o l) (TreePath-unique ts side x.head up.rest p up.path tree));
      low = (λ d dist. subst (λ (n : ℕ). n ≤ d) (sym rest) (carried_low ts side o x.head d up.rest up.path dist));
    }

-- each step comes nearer to the root
pub nearer_up : (ts : Trees) (side : Side) (v a b : ℕ) (x : Step) → IsUpStep ts side v x → TreeDist ts side v a → TreeDist ts side x.head b → b < a
nearer_up ts side v a b x up da db = omega (arith, up.nearer a b da db, up.some)

-- what a search in the ascending arcs says
pub on_found : (o : List ℕ) (i a : ℕ) → i < length o → get_or o i 0 ≡ a → list_any (λ b. b == a) o ≡ true
on_found o i a lt is = list_any_at (λ b. b == a) o i 0 lt (eq-eqb (get_or o i 0) a is)

pub on_missing : (o : List ℕ) (i a : ℕ) → ((k : ℕ) → k < i → get_or o k 0 < a) → ((k : ℕ) → i ≤ k → k < length o → a < get_or o k 0) → list_any (λ b. b == a) o ≡ false
on_missing o i a below above = list_any_none (λ b. b == a) o (λ k d lt. ne_eqb (get_or o k d) a (λ same.
    ⊎_elim
    (λ (less : k < i). omega (arith, below k less, get_or_default o k d 0 lt, same))
    (λ (ge : i ≤ k). omega (arith, above k ge lt, get_or_default o k d 0 lt, same))
    (cases_lt k i)))

pub sums_put : (ts : Trees) (side : Side) (o : List ℕ) (old new : List (Option ℕ)) (v place k : ℕ) → place ≡ v → new ≡ slice_set old place (Some k) → AreSums ts side o old → IsSumAt ts side o v k → AreSums ts side o new
sums_put ts side o old new v place k here is h own =
    subst (λ (l : List (Option ℕ)). AreSums ts side o l) (sym is)
    (⊎_elim
    (λ (inside : place < length old). sums_set ts side o old place k inside h (subst (λ (x : ℕ). IsSumAt ts side o x k) (sym here) own))
    (λ (past : length old ≤ place). subst (λ (l : List (Option ℕ)). AreSums ts side o l) (sym (set_past old place (Some k) past)) h)
    (cases_lt place (length old)))
