-- The first step back that fits is the least tight arc, there is one, and these steps make the canonical path. A step
-- back is a step of the reversed graph, which h names.
use Rattle.std.proofs.Common.{◌≡◌, ℕ, ◌+◌, ◌<◌, ◌≤◌, ◌⊎◌, List, [], ◌∷◌, ◌++◌, length, reverse, Option, Some, None, refl, sym, ap, ◌∙◌, subst, arith, ⊎_elim, append-nil, append_assoc}
use Rattle.std.proofs.lemmas.Bool.{cases_order}
use Rattle.std.proofs.lemmas.Option.{slice_get_within, slice_get_cases}
use Rattle.road_model.specs.declared.rows.ArcRow.{ArcRow}
use Rattle.road_model.specs.declared.network.Step.{Step}
use Rattle.road_model.specs.Graph.{Graph, IsGraph, IsVertex, arc_at, step_at, steps_from, step_of, reversed}
use Rattle.road_model.specs.Walk.{IsWalk, walk_length}
use Rattle.road_model.specs.Dist.{IsDist, HaveSameDist}
use Rattle.road_model.specs.Canonical.{IsFirst, IsLast}
use Rattle.road_model.proofs.Walks.{IsArc-at, walk_length-positive}
use Rattle.road_model.proofs.Dists.{IsDist-unique, IsDist-same, shortest_of_dist}
use Rattle.forward_star.proofs.Turned.{IsGraph-reversed, IsDist-reversed, IsDist-unreversed}
use Rattle.canonical_trees.specs.Tight.{IsTight}
use Rattle.canonical_trees.proofs.Steps.{step_row, step_of_arc, steps_rise}
use Rattle.canonical_trees.proofs.Canonical.{begins, IsLast-cons, IsLast-nil}
use Rattle.canonical_trees.proofs.Turned.{IsFirst-unreversed}
use Rattle.hierarchy_optimum.specs.Back.{LeavesRest, IsStepBack}

-- none of the first i steps back fits
abbrev pub NoneFits : Graph → ℕ → ℕ → ℕ → ℕ → Type 0
NoneFits h s v left i = (j k : ℕ) (x : Step) → j < i → step_at h v j ≡ Some x → IsDist h x.head s (Some k) → x.length + k ≡ left → ⊥

fitted : (h : Graph) (s u left length k : ℕ) (d : Option ℕ) → IsDist h u s d → IsDist h u s (Some k) → length + k ≡ left → LeavesRest left length d
fitted h s u left length k None dist other sum = absurd (let e : None ≡ Some k = IsDist-unique h u s None (Some k) dist other in cc)
fitted h s u left length k (Some near) dist other sum =
    ap (λ (n : ℕ). length + n) (IsDist-same h u s near k dist other) ∙ sum

pub NoneFits-more : (h : Graph) (s v left i : ℕ) (x : Step) (d : Option ℕ) → NoneFits h s v left i → step_at h v i ≡ Some x → IsDist h x.head s d → (LeavesRest left x.length d → ⊥) → NoneFits h s v left (i + 1)
NoneFits-more h s v left i x d none is dist not = λ j k y lt at beyond sum.
    ⊎_elim
    (λ (same : j ≡ i).
    let both : Some y ≡ Some x = sym at ∙ ap (λ (n : ℕ). step_at h v n) same ∙ is in
    let step : y ≡ x = cc in
    not (fitted h s x.head left x.length k d dist (subst (λ (z : Step). IsDist h z.head s (Some k)) step beyond) (subst (λ (z : Step). z.length + k ≡ left) step sum)))
    (λ (apart : (j < i) ⊎ (i < j)).
    ⊎_elim
    (λ (before : j < i). none j k y before at beyond sum)
    (λ (after : i < j). absurd (omega arith))
    apart)
    (cases_order j i)

-- a step that fits is tight
tight_back : (h : Graph) (s v left near : ℕ) (x : Step) → IsDist h v s (Some left) → (r : ArcRow) → x.head ≡ r.head → x.length ≡ r.length → r.tail ≡ v → arc_at h x.arc ≡ Some r → IsDist h x.head s (Some near) → x.length + near ≡ left → IsTight h s v x.arc r near
tight_back h s v left near x dist r head long tail is beyond sum =
    record {
      is = is;
      tail = tail;
      beyond = subst (λ (u : ℕ). IsDist h u s (Some near)) head beyond;
      whole = subst (λ (n : ℕ). IsDist h v s (Some n)) (sym sum ∙ ap (λ (n : ℕ). n + near) long) dist;
    }

least_back : (h : Graph) (s v left i : ℕ) (x : Step) → IsDist h v s (Some left) → NoneFits h s v left i → step_at h v i ≡ Some x → (b : ℕ) (r : ArcRow) (k : ℕ) → IsTight h s v b r k → x.arc ≤ b
least_back h s v left i x dist none is b r k tight =
    let found = step_of_arc h v b r tight.is tight.tail in
    ⊎_elim
    (λ (same : found.at ≡ i).
    let both : Some x ≡ Some (step_of b r) = sym is ∙ ap (λ (n : ℕ). step_at h v n) (sym same) ∙ found.is in
    let step : x ≡ step_of b r = cc in
    let number : x.arc ≡ b = ap (λ (y : Step). y.arc) step in
    let low : x.arc ≤ b = omega arith in
    low)
    (λ (apart : (found.at < i) ⊎ (i < found.at)).
    ⊎_elim
    (λ (before : found.at < i). absurd (none found.at k (step_of b r) before found.is tight.beyond (IsDist-same h v s (r.length + k) left tight.whole dist)))
    (λ (after : i < found.at).
    let rise : x.arc < b = steps_rise h v i found.at x (step_of b r) after is found.is in
    let low : x.arc ≤ b = omega arith in
    low)
    apart)
    (cases_order found.at i)

pub step_fits : (g : Graph) (s v left i : ℕ) (x : Step) (d : Option ℕ) → IsDist (reversed g) v s (Some left) → NoneFits (reversed g) s v left i → step_at (reversed g) v i ≡ Some x → IsDist (reversed g) x.head s d → LeavesRest left x.length d → IsStepBack g s v left x
step_fits g s v left i x None dist none is beyond fits = absurd fits
step_fits g s v left i x (Some near) dist none is beyond fits =
    let r = step_row (reversed g) v i x is in
    record {
      row = r.row;
      near = near;
      head = r.head;
      long = r.long;
      sum = fits;
      least = record {
        tight = tight_back (reversed g) s v left near x dist r.row r.head r.long r.tail r.arc beyond fits;
        least = least_back (reversed g) s v left i x dist none is;
      };
    }

none_at : (h : Graph) (v i j : ℕ) (x : Step) → step_at h v i ≡ None → step_at h v j ≡ Some x → j < i
none_at h v i j x none is =
    let inside : j < length (steps_from v 1 h.arcs) = slice_get_within (steps_from v 1 h.arcs) j x is in
    ⊎_elim
    (λ (some : (y : Step) × (i < length (steps_from v 1 h.arcs)) × (step_at h v i ≡ Some y) × _).
    absurd (let e : None ≡ Some some.0 = sym none ∙ some.2 in cc))
    (λ (past : (length (steps_from v 1 h.arcs) ≤ i) × (step_at h v i ≡ None)). let lt : j < i = omega (arith, past.0) in lt)
    (slice_get_cases (steps_from v 1 h.arcs) i).1

none_on_walk : (h : Graph) (s v left i : ℕ) (p : List ℕ) → IsDist h v s (Some left) → 1 ≤ left → NoneFits h s v left i → step_at h v i ≡ None → IsWalk h v p s → walk_length h p ≡ left → ⊥
none_on_walk h s v left i [] dist some none is walk long = let zero : walk_length h [] ≡ 0 = refl in omega arith
none_on_walk h s v left i (a ∷ q) dist some none is walk long =
    let first = begins h s v a q (shortest_of_dist h v s left (a ∷ q) dist walk long) in
    let found = step_of_arc h v a first.row first.tight.is first.tight.tail in
    none found.at (walk_length h q) (step_of a first.row) (none_at h v i found.at (step_of a first.row) is found.is) found.is first.tight.beyond
    (IsDist-same h v s (first.row.length + walk_length h q) left first.tight.whole dist)

-- at a vertex other than the source some step back fits
pub some_fits : (h : Graph) (s v left i : ℕ) → IsDist h v s (Some left) → 1 ≤ left → NoneFits h s v left i → step_at h v i ≡ None → ⊥
some_fits h s v left i dist some none is =
    none_on_walk h s v left i dist.0.path dist some none is dist.0.walk dist.0.long

-- the distances of the other graph, in the reversed one
pub dist_back : (g k : Graph) (s v : ℕ) (d : Option ℕ) → HaveSameDist g k → IsDist k s v d → IsDist (reversed g) v s d
dist_back g k s v d same dist = IsDist-reversed g s v d ((same.dist s v d).1 dist)

pub head_vertex : (g : Graph) (v i : ℕ) (x : Step) → IsGraph g → step_at (reversed g) v i ≡ Some x → IsVertex g.vertices x.head
head_vertex g v i x sound is =
    let r = step_row (reversed g) v i x is in
    subst (λ (u : ℕ). IsVertex g.vertices u) (sym r.head) (IsArc-at (reversed g) x.arc r.row (IsGraph-reversed g sound) r.arc).head

pub step_long : (g : Graph) (s v left : ℕ) (x : Step) → IsGraph g → IsStepBack g s v left x → 1 ≤ x.length
step_long g s v left x sound step =
    let one : 1 ≤ step.row.length = (IsArc-at (reversed g) x.arc step.row (IsGraph-reversed g sound) step.least.tight.is).positive in
    omega (arith, step.long)

-- the path from its end so far: with the canonical walk on from here, it is the canonical walk
pub record Going (g : Graph) (s t at left : ℕ) (arcs : List ℕ) : Type 0 where
  pub dist : IsDist g s at (Some left)
  pub walked : (rest : List ℕ) → IsLast (reversed g) at rest s → IsLast (reversed g) t (arcs ++ rest) s

pub Going-start : (g : Graph) (s t length : ℕ) (arcs : List ℕ) → arcs ≡ [] → IsDist g s t (Some length) → Going g s t t length arcs
Going-start g s t length arcs none dist =
    record {
      dist = dist;
      walked = (λ rest last. subst (λ (p : List ℕ). IsLast (reversed g) t (p ++ rest) s) (sym none) last);
    }

pub Going-more : (g : Graph) (s t at left next : ℕ) (arcs : List ℕ) (x : Step) → IsGraph g → next + x.length ≡ left → IsStepBack g s at left x → Going g s t at left arcs → Going g s t x.head next (arcs ++ x.arc ∷ [])
Going-more g s t at left next arcs x sound is step going =
    let sum = step.sum in
    let near : step.near ≡ next = omega arith in
    let beyond : IsDist (reversed g) x.head s (Some next) = subst (λ (n : ℕ). IsDist (reversed g) x.head s (Some n)) near
    (subst (λ (u : ℕ). IsDist (reversed g) u s (Some step.near)) (sym step.head) step.least.tight.beyond) in
    record {
      dist = IsDist-unreversed g x.head s (Some next) beyond;
      walked = (λ rest last.
          subst (λ (p : List ℕ). IsLast (reversed g) t p s) (sym (append_assoc arcs (x.arc ∷ []) rest))
          (going.walked (x.arc ∷ rest)
          (IsLast-cons (reversed g) s at x.arc step.row step.near rest (IsGraph-reversed g sound) step.least
          (subst (λ (u : ℕ). IsLast (reversed g) u rest s) step.head last))));
    }

no_way : (g : Graph) (s v : ℕ) (p : List ℕ) → IsGraph g → IsWalk g s p v → walk_length g p ≡ 0 → s ≡ v
no_way g s v [] sound walk long = walk
no_way g s v (a ∷ p) sound walk long = let some = walk_length-positive g a p s v sound walk in absurd (omega arith)

-- where nothing is left, the source is reached, and the arcs read backwards are the path
pub Going-all : (g : Graph) (s t at left : ℕ) (arcs path : List ℕ) → IsGraph g → left ≡ 0 → path ≡ reverse arcs → Going g s t at left arcs → IsFirst g s path t
Going-all g s t at left arcs path sound none is going =
    let walk = going.dist.0 in
    let same : s ≡ at = no_way g s at walk.path sound walk.walk (walk.long ∙ none) in
    let last : IsLast (reversed g) t arcs s = subst (λ (p : List ℕ). IsLast (reversed g) t p s) (append-nil arcs)
    (going.walked [] (subst (λ (u : ℕ). IsLast (reversed g) u [] s) same (IsLast-nil (reversed g) s))) in
    subst (λ (p : List ℕ). IsFirst g s p t) (sym is) (IsFirst-unreversed g s t arcs last)
