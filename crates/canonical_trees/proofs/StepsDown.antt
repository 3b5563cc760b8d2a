-- The first step that fits the labels is the least tight arc, and there is one.
use Rattle.std.proofs.Common.{◌≡◌, ◌≢◌, ℕ, ◌+◌, ◌<◌, ◌≤◌, ◌⊎◌, List, [], ◌∷◌, ◌++◌, length, Option, Some, None, refl, sym, ap, ◌∙◌, subst, arith, inl, inr, ⊎_elim, append-nil, append_assoc, IsSome}
use Rattle.std.proofs.lemmas.Bool.{cases_order, false≢true}
use Rattle.std.proofs.lemmas.Option.{slice_get_within, slice_get_cases}
use Rattle.road_model.specs.declared.rows.ArcRow.{ArcRow}
use Rattle.road_model.specs.declared.network.Step.{Step}
use Rattle.road_model.specs.Graph.{Graph, step_at, steps_from, step_of}
use Rattle.road_model.specs.Walk.{walk_length}
use Rattle.road_model.specs.Dist.{IsDist, IsShortest}
use Rattle.road_model.specs.Canonical.{IsLast}
use Rattle.road_model.proofs.Walks.{IsArc-at}
use Rattle.road_model.proofs.Dists.{IsDist-same, shortest_of_dist}
use Rattle.tree_search.specs.Ball.{label_at}
use Rattle.canonical_trees.specs.Tight.{IsTight, IsRooted, HasTightLabel, IsLeastStep, AddsPath}
use Rattle.canonical_trees.proofs.Steps.{IsStepOf, step_row, step_of_arc, steps_rise}
use Rattle.canonical_trees.proofs.Canonical.{begins, IsLast-cons, IsLast-nil}

beyond_cases : (g : Graph) (t v left b : ℕ) (labels : List (Option ℕ)) (x : ArcRow) (k : ℕ) (o : Option ℕ) → IsRooted g t labels → label_at labels v ≡ Some left → IsTight g t v b x k → label_at labels x.head ≡ o → label_at labels x.head ≡ Some k
beyond_cases g t v left b labels x k None rooted label tight is =
    let walk = tight.beyond.0 in
    let near : left < walk_length g walk.path = rooted.reach x.head v left walk.path is walk.walk label in
    let whole : left ≡ x.length + k = IsDist-same g v t left (x.length + k) (rooted.exact v left label) tight.whole in
    absurd (omega (arith, walk.long))
beyond_cases g t v left b labels x k (Some m) rooted label tight is =
    is ∙ ap (λ (n : ℕ). Some n) (IsDist-same g x.head t m k (rooted.exact x.head m is) tight.beyond)

-- a tight arc's step has the label that fits
tight_label : (g : Graph) (t v left b : ℕ) (labels : List (Option ℕ)) (x : ArcRow) (k : ℕ) → IsRooted g t labels → label_at labels v ≡ Some left → IsTight g t v b x k → HasTightLabel labels left (step_of b x)
tight_label g t v left b labels x k rooted label tight =
    let whole : x.length + k ≡ left = IsDist-same g v t (x.length + k) left tight.whole (rooted.exact v left label) in
    record {
      near = k;
      label = beyond_cases g t v left b labels x k (label_at labels x.head) rooted label tight refl;
      sum = whole;
    }

abbrev pub NoneBefore : Graph → ℕ → ℕ → List (Option ℕ) → ℕ → Type 0
NoneBefore g v left labels i = (j : ℕ) (s : Step) → j < i → step_at g v j ≡ Some s → HasTightLabel labels left s → ⊥

tight_of_step : (g : Graph) (t v left : ℕ) (labels : List (Option ℕ)) (s : Step) → IsRooted g t labels → label_at labels v ≡ Some left → (r : IsStepOf g v s) (h : HasTightLabel labels left s) → IsTight g t v s.arc r.row h.near
tight_of_step g t v left labels s rooted label r h =
    let beyond : IsDist g r.row.head t (Some h.near) = subst (λ (u : ℕ). IsDist g u t (Some h.near)) r.head (rooted.exact s.head h.near h.label) in
    let sum : left ≡ r.row.length + h.near = sym h.sum ∙ ap (λ (n : ℕ). n + h.near) r.long in
    record {
      is = r.arc;
      tail = r.tail;
      beyond = beyond;
      whole = subst (λ (n : ℕ). IsDist g v t (Some n)) sum (rooted.exact v left label);
    }

pub least_step : (g : Graph) (t v left i : ℕ) (labels : List (Option ℕ)) (s : Step) → IsRooted g t labels → v ≢ t → label_at labels v ≡ Some left → NoneBefore g v left labels i → step_at g v i ≡ Some s → HasTightLabel labels left s → IsLeastStep g t labels v s
least_step g t v left i labels s rooted other label before is h =
    let r = step_row g v i s is in
    let least = (λ (b : ℕ) (x : ArcRow) (k : ℕ) (tight : IsTight g t v b x k).
    let found = step_of_arc g v b x tight.is tight.tail in
    let low : s.arc ≤ b =
    ⊎_elim
    (λ (same : found.at ≡ i).
    let both : Some s ≡ Some (step_of b x) = sym is ∙ ap (λ (n : ℕ). step_at g v n) (sym same) ∙ found.is in
    let step : s ≡ step_of b x = cc in
    let number : s.arc ≡ b = ap (λ (y : Step). y.arc) step in
    let le : s.arc ≤ b = omega arith in
    le)
    (λ (apart : (found.at < i) ⊎ (i < found.at)).
    ⊎_elim
    (λ (lt : found.at < i). absurd (before found.at (step_of b x) lt found.is (tight_label g t v left b labels x k rooted label tight)))
    (λ (gt : i < found.at).
    let rise : s.arc < b = steps_rise g v i found.at s (step_of b x) gt is found.is in
    let le : s.arc ≤ b = omega arith in
    le)
    apart)
    (cases_order found.at i) in
    low) in
    record {
      row = r.row;
      near = h.near;
      head = r.head;
      long = r.long;
      least = record { tight = tight_of_step g t v left labels s rooted label r h; least = least };
      other = other;
      label = label ∙ ap (λ (n : ℕ). Some n) (sym h.sum);
      beyond = h.label;
    }

found_before : (g : Graph) (v i j : ℕ) (s : Step) → step_at g v i ≡ None → step_at g v j ≡ Some s → j < i
found_before g v i j s none is =
    let inside : j < length (steps_from v 1 g.arcs) = slice_get_within (steps_from v 1 g.arcs) j s is in
    ⊎_elim
    (λ (h : (x : Step) × (i < length (steps_from v 1 g.arcs)) × (step_at g v i ≡ Some x) × _).
    absurd (let e : None ≡ Some h.0 = sym none ∙ h.2 in cc))
    (λ (h : (length (steps_from v 1 g.arcs) ≤ i) × (step_at g v i ≡ None)). let lt : j < i = omega (arith, h.0) in lt)
    (slice_get_cases (steps_from v 1 g.arcs) i).1

none_on_walk : (g : Graph) (t v left i : ℕ) (labels : List (Option ℕ)) (p : List ℕ) → IsRooted g t labels → v ≢ t → label_at labels v ≡ Some left → NoneBefore g v left labels i → step_at g v i ≡ None → IsShortest g v p t → ⊥
none_on_walk g t v left i labels [] rooted other label before none short = other short.walk
none_on_walk g t v left i labels (a ∷ q) rooted other label before none short =
    let first = begins g t v a q short in
    let found = step_of_arc g v a first.row first.tight.is first.tight.tail in
    before found.at (step_of a first.row) (found_before g v i found.at (step_of a first.row) none found.is) found.is (tight_label g t v left a labels first.row (walk_length g q) rooted label first.tight)

-- a vertex that has a label and isn't the root has a step that fits
pub none_left : (g : Graph) (t v left i : ℕ) (labels : List (Option ℕ)) → IsRooted g t labels → v ≢ t → label_at labels v ≡ Some left → NoneBefore g v left labels i → step_at g v i ≡ None → ⊥
none_left g t v left i labels rooted other label before none =
    let dist = rooted.exact v left label in
    none_on_walk g t v left i labels dist.0.path rooted other label before none
    (shortest_of_dist g v t left dist.0.path dist dist.0.walk dist.0.long)

-- a step, and then the canonical walk from its head, is canonical
pub IsLast-step : (g : Graph) (t v : ℕ) (labels : List (Option ℕ)) (s : Step) (p : List ℕ) → IsRooted g t labels → IsLeastStep g t labels v s → IsLast g s.head p t → IsLast g v (s.arc ∷ p) t
IsLast-step g t v labels s p rooted h last =
    IsLast-cons g t v s.arc h.row h.near p rooted.sound h.least
    (subst (λ (u : ℕ). IsLast g u p t) h.head last)

-- a step is 1 long at least
pub step_positive : (g : Graph) (t v : ℕ) (labels : List (Option ℕ)) (s : Step) → IsRooted g t labels → IsLeastStep g t labels v s → 1 ≤ s.length
step_positive g t v labels s rooted h =
    let one : 1 ≤ h.row.length = (IsArc-at g s.arc h.row rooted.sound h.least.tight.is).positive in
    omega (arith, h.long)

pub some_at : (o : Option ℕ) (k : ℕ) → o ≡ Some k → IsSome o
some_at o k is = subst (λ (x : Option ℕ). IsSome x) (sym is) refl

-- a canonical walk so far goes on by one more step
pub walked_on : (g : Graph) (t v at : ℕ) (labels : List (Option ℕ)) (s : Step) (walk : List ℕ) → IsRooted g t labels → IsLeastStep g t labels at s → ((rest : List ℕ) → IsLast g at rest t → IsLast g v (walk ++ rest) t) → (rest : List ℕ) → IsLast g s.head rest t → IsLast g v ((walk ++ s.arc ∷ []) ++ rest) t
walked_on g t v at labels s walk rooted h walked rest last =
    subst (λ (p : List ℕ). IsLast g v p t) (sym (append_assoc walk (s.arc ∷ []) rest))
    (walked (s.arc ∷ rest) (IsLast-step g t at labels s rest rooted h last))

-- at the root the walk is whole
pub walked_all : (g : Graph) (t v at : ℕ) (walk : List ℕ) → at ≡ t → ((rest : List ℕ) → IsLast g at rest t → IsLast g v (walk ++ rest) t) → IsLast g v walk t
walked_all g t v at walk same walked =
    subst (λ (p : List ℕ). IsLast g v p t) (append-nil walk)
    (walked [] (subst (λ (u : ℕ). IsLast g u [] t) (sym same) (IsLast-nil g t)))

pub adds : (g : Graph) (t v at : ℕ) (labels : List (Option ℕ)) (old new walk : List ℕ) → (at ≡ t) ⊎ (label_at labels at ≡ None) → IsSome (label_at labels at) → new ≡ old ++ walk → ((rest : List ℕ) → IsLast g at rest t → IsLast g v (walk ++ rest) t) → AddsPath g t v old new
adds g t v at labels old new walk (inl same) some is walked =
    record { walk = walk; is = is; last = walked_all g t v at walk same walked }
adds g t v at labels old new walk (inr none) some is walked =
    let gone : IsSome {T = ℕ} None = subst (λ (o : Option ℕ). IsSome o) none some in
    absurd (false≢true gone)
