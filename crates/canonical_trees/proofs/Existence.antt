-- Each vertex that has a label has a canonical walk to the root.
use Rattle.std.proofs.Common.{◌≡◌, ◌≢◌, ℕ, ◌+◌, ◌<◌, ◌⊎◌, zero, suc, List, [], ◌∷◌, length, Option, Some, None, slice_get, refl, sym, ap, ◌∙◌, subst, arith, inl, inr, ⊎_elim}
use Rattle.std.proofs.lemmas.Bool.{cases_eq}
use Rattle.std.proofs.lemmas.Option.{slice_get_past}
use Rattle.road_model.specs.declared.network.Step.{Step}
use Rattle.road_model.specs.Graph.{Graph, steps_from}
use Rattle.road_model.specs.Canonical.{IsLast}
use Rattle.tree_search.specs.Ball.{label_at}
use Rattle.canonical_trees.specs.Tight.{IsRooted, HasTightLabel, IsLeastStep}
use Rattle.canonical_trees.proofs.Canonical.{IsLast-nil}
use Rattle.canonical_trees.proofs.StepsDown.{least_step, none_left, IsLast-step, step_positive}

fits_or_not : (labels : List (Option ℕ)) (left : ℕ) (s : Step) (o : Option ℕ) → label_at labels s.head ≡ o → HasTightLabel labels left s ⊎ (HasTightLabel labels left s → ⊥)
fits_or_not labels left s None is =
    inr (λ h. let e : Some h.near ≡ None = sym h.label ∙ is in cc)
fits_or_not labels left s (Some near) is =
    ⊎_elim
    (λ (same : s.length + near ≡ left). inl (record { near = near; label = is; sum = same }))
    (λ (apart : s.length + near ≡ left → ⊥).
    inr (λ h.
    let e : Some h.near ≡ Some near = sym h.label ∙ is in
    let n : h.near ≡ near = cc in
    apart (ap (λ (k : ℕ). s.length + k) (sym n) ∙ h.sum)))
    (cases_eq (s.length + near) left)

abbrev NoneOf : List (Option ℕ) → ℕ → List Step → Type 0
NoneOf labels left steps = (j : ℕ) (s : Step) → slice_get steps j ≡ Some s → HasTightLabel labels left s → ⊥

record FirstFit (labels : List (Option ℕ)) (left : ℕ) (steps : List Step) : Type 0 where
  place : ℕ
  step : Step
  is : slice_get steps place ≡ Some step
  tight : HasTightLabel labels left step
  before : (j : ℕ) (s : Step) → j < place → slice_get steps j ≡ Some s → HasTightLabel labels left s → ⊥

before_later : (labels : List (Option ℕ)) (left : ℕ) (x : Step) (steps : List Step) (place : ℕ) → (HasTightLabel labels left x → ⊥) → ((j : ℕ) (s : Step) → j < place → slice_get steps j ≡ Some s → HasTightLabel labels left s → ⊥) → (j : ℕ) (s : Step) → j < suc place → slice_get (x ∷ steps) j ≡ Some s → HasTightLabel labels left s → ⊥
before_later labels left x steps place not before zero s lt is h =
    let same : x ≡ s = cc in
    not (subst (λ (y : Step). HasTightLabel labels left y) (sym same) h)
before_later labels left x steps place not before (suc j) s lt is h = before j s (omega arith) is h

none_more : (labels : List (Option ℕ)) (left : ℕ) (x : Step) (steps : List Step) → (HasTightLabel labels left x → ⊥) → NoneOf labels left steps → NoneOf labels left (x ∷ steps)
none_more labels left x steps not none zero s is h =
    let same : x ≡ s = cc in
    not (subst (λ (y : Step). HasTightLabel labels left y) (sym same) h)
none_more labels left x steps not none (suc j) s is h = none j s is h

first_fit : (labels : List (Option ℕ)) (left : ℕ) (steps : List Step) → FirstFit labels left steps ⊎ NoneOf labels left steps
first_fit labels left [] = inr (λ j s is h. let e : None ≡ Some s = is in cc)
first_fit labels left (x ∷ steps) =
    ⊎_elim
    (λ (yes : HasTightLabel labels left x).
    inl (record { place = zero; step = x; is = refl; tight = yes; before = (λ j s lt is h. absurd (omega arith)) }))
    (λ (not : HasTightLabel labels left x → ⊥).
    ⊎_elim
    (λ (later : FirstFit labels left steps).
    inl (record { place = suc later.place; step = later.step; is = later.is; tight = later.tight; before = before_later labels left x steps later.place not later.before }))
    (λ (none : NoneOf labels left steps). inr (none_more labels left x steps not none))
    (first_fit labels left steps))
    (fits_or_not labels left x (label_at labels x.head) refl)

-- a vertex other than the root that has a label has a least tight arc
pub record HasLeastStep (g : Graph) (t : ℕ) (labels : List (Option ℕ)) (v : ℕ) : Type 0 where
  pub step : Step
  pub least : IsLeastStep g t labels v step

pub step_exists : (g : Graph) (t v left : ℕ) (labels : List (Option ℕ)) → IsRooted g t labels → v ≢ t → label_at labels v ≡ Some left → HasLeastStep g t labels v
step_exists g t v left labels rooted other label =
    let steps = steps_from v 1 g.arcs in
    ⊎_elim
    (λ (first : FirstFit labels left steps).
    let least : IsLeastStep g t labels v first.step = least_step g t v left first.place labels first.step rooted other label first.before first.is first.tight in
    let found : HasLeastStep g t labels v = record { step = first.step; least = least } in
    found)
    (λ (none : NoneOf labels left steps).
    absurd (none_left g t v left (length steps) labels rooted other label (λ j s lt is h. none j s is h) (slice_get_past steps (length steps) (omega arith))))
    (first_fit labels left steps)

-- a canonical walk
pub record HasLast (g : Graph) (v t : ℕ) : Type 0 where
  pub path : List ℕ
  pub last : IsLast g v path t

last_within : (n : ℕ) (g : Graph) (t v k : ℕ) (labels : List (Option ℕ)) → IsRooted g t labels → k < n → label_at labels v ≡ Some k → HasLast g v t
last_within zero g t v k labels rooted lt label = absurd (omega arith)
last_within (suc n) g t v k labels rooted lt label =
    ⊎_elim
    (λ (same : v ≡ t).
    let found : HasLast g v t = record { path = []; last = subst (λ (u : ℕ). IsLast g u [] t) (sym same) (IsLast-nil g t) } in
    found)
    (λ (other : v ≡ t → ⊥).
    let next = step_exists g t v k labels rooted other label in
    let one = step_positive g t v labels next.step rooted next.least in
    let both : Some k ≡ Some (next.step.length + next.least.near) = sym label ∙ next.least.label in
    let sum : k ≡ next.step.length + next.least.near = cc in
    let rest = last_within n g t next.step.head next.least.near labels rooted (omega arith) next.least.beyond in
    let found : HasLast g v t = record { path = next.step.arc ∷ rest.path; last = IsLast-step g t v labels next.step rest.path rooted next.least rest.last } in
    found)
    (cases_eq v t)

pub last_exists : (g : Graph) (t v k : ℕ) (labels : List (Option ℕ)) → IsRooted g t labels → label_at labels v ≡ Some k → HasLast g v t
last_exists g t v k labels rooted label = last_within (suc k) g t v k labels rooted (omega arith) label
