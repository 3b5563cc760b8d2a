-- Where a walk leads, there is a canonical one: its first arc is found by trying the arcs in turn.
use Rattle.std.proofs.Common.{◌≡◌, ℕ, ◌+◌, ◌-◌, ◌<◌, ◌≤◌, ◌⊎◌, zero, suc, List, [], ◌∷◌, length, reverse, Option, Some, None, refl, sym, ap, ◌∙◌, subst, arith, inl, inr, ⊎_elim}
use Rattle.std.proofs.lemmas.Bool.{cases_lt, cases_eq}
use Rattle.std.proofs.lemmas.Option.{slice_get_within}
use Rattle.road_model.specs.declared.rows.ArcRow.{ArcRow}
use Rattle.road_model.specs.Graph.{Graph, IsGraph, arc_at, length_at, row_length, reversed}
use Rattle.road_model.specs.Walk.{IsWalk, walk_length}
use Rattle.road_model.specs.Dist.{HasWalk, IsDist}
use Rattle.road_model.specs.Canonical.{IsFirst, IsLast}
use Rattle.road_model.proofs.Walks.{IsArc-at}
use Rattle.road_model.proofs.Dists.{IsDist-same}
use Rattle.forward_star.proofs.Turned.{IsGraph-reversed, IsDist-reversed}
use Rattle.canonical_trees.specs.Tight.{IsLeastTight}
use Rattle.canonical_trees.proofs.Canonical.{IsLast-cons, IsLast-nil}
use Rattle.canonical_trees.proofs.Existence.{HasLast}
use Rattle.canonical_trees.proofs.Turned.{IsFirst-unreversed}

-- the least number that a fact holds of
record HasLeast (P : ℕ → Type 0) : Type 0 where
  at : ℕ
  is : P at
  least : (b : ℕ) → P b → at ≤ b

none_more : (P : ℕ → Type 0) (n : ℕ) → ((a : ℕ) → a < n → P a → ⊥) → (P n → ⊥) → (a : ℕ) → a < suc n → P a → ⊥
none_more P n below not a lt h =
    ⊎_elim
    (λ (less : a < n). below a less h)
    (λ (ge : n ≤ a).
    let same : a ≡ n = omega arith in
    not (subst (λ (x : ℕ). P x) same h))
    (cases_lt a n)

least_or_none : (P : ℕ → Type 0) → ((a : ℕ) → P a ⊎ (P a → ⊥)) → (n : ℕ) → HasLeast P ⊎ ((a : ℕ) → a < n → P a → ⊥)
least_or_none P tell zero = inr (λ a lt h. absurd (omega arith))
least_or_none P tell (suc n) =
    ⊎_elim
    (λ (found : HasLeast P). inl found)
    (λ (below : (a : ℕ) → a < n → P a → ⊥).
    ⊎_elim
    (λ (here : P n).
    inl (record {
      at = n;
      is = here;
      least = (λ b h. ⊎_elim
          (λ (lt : b < n). absurd (below b lt h))
          (λ (ge : n ≤ b). ge)
          (cases_lt b n));
    }))
    (λ (not : P n → ⊥). inr (none_more P n below not))
    (tell n))
    (least_or_none P tell n)

-- a walk of the length k from v to t that begins with the arc a
record BeginsWith (g : Graph) (t v k a : ℕ) : Type 0 where
  row : ArcRow
  is : arc_at g a ≡ Some row
  tail : row.tail ≡ v
  left : ℕ
  sum : row.length + left ≡ k
  rest : HasWalk g row.head t left

abbrev Told : Graph → ℕ → ℕ → ℕ → Type 0
Told g t v k = HasWalk g v t k ⊎ (HasWalk g v t k → ⊥)

-- the walks of a length below k are told from none
abbrev ToldBelow : Graph → ℕ → ℕ → Type 0
ToldBelow g t k = (v j : ℕ) → j < k → Told g t v j

row_same : (g : Graph) (a : ℕ) (r x : ArcRow) → arc_at g a ≡ Some r → arc_at g a ≡ Some x → r ≡ x
row_same g a r x h k =
    let both : Some r ≡ Some x = sym h ∙ k in
    cc

begins_by_row : (g : Graph) (t v k a : ℕ) (r : ArcRow) → IsGraph g → ToldBelow g t k → arc_at g a ≡ Some r → BeginsWith g t v k a ⊎ (BeginsWith g t v k a → ⊥)
begins_by_row g t v k a r sound told is =
    let one : 1 ≤ r.length = (IsArc-at g a r sound is).positive in
    ⊎_elim
    (λ (same : r.tail ≡ v).
    ⊎_elim
    (λ (long : k < r.length).
    inr (λ (h : BeginsWith g t v k a).
    let row : r ≡ h.row = row_same g a r h.row is h.is in
    let lengths : r.length ≡ h.row.length = ap (λ (x : ArcRow). x.length) row in
    absurd (omega (arith, h.sum))))
    (λ (fits : r.length ≤ k).
    ⊎_elim
    (λ (walk : HasWalk g r.head t (k - r.length)).
    inl (record { row = r; is = is; tail = same; left = k - r.length; sum = omega arith; rest = walk }))
    (λ (none : HasWalk g r.head t (k - r.length) → ⊥).
    inr (λ (h : BeginsWith g t v k a).
    let row : h.row ≡ r = row_same g a h.row r h.is is in
    let lengths : h.row.length ≡ r.length = ap (λ (x : ArcRow). x.length) row in
    let left : h.left ≡ k - r.length = omega (arith, h.sum) in
    none (subst (λ (x : ArcRow). HasWalk g x.head t (k - r.length)) row (subst (λ (n : ℕ). HasWalk g h.row.head t n) left h.rest))))
    (told r.head (k - r.length) (omega arith)))
    (cases_lt k r.length))
    (λ (other : r.tail ≡ v → ⊥).
    inr (λ (h : BeginsWith g t v k a).
    let row : r ≡ h.row = row_same g a r h.row is h.is in
    other (ap (λ (x : ArcRow). x.tail) row ∙ h.tail)))
    (cases_eq r.tail v)

begins_by_arc : (g : Graph) (t v k a : ℕ) (o : Option ArcRow) → IsGraph g → ToldBelow g t k → arc_at g a ≡ o → BeginsWith g t v k a ⊎ (BeginsWith g t v k a → ⊥)
begins_by_arc g t v k a None sound told is =
    inr (λ h. let e : None ≡ Some h.row = sym is ∙ h.is in cc)
begins_by_arc g t v k a (Some r) sound told is = begins_by_row g t v k a r sound told is

begins_inside : (g : Graph) (t v k a : ℕ) → BeginsWith g t v k a → a < length g.arcs + 1
begins_inside g t v k zero h = omega arith
begins_inside g t v k (suc a) h =
    let lt : a < length g.arcs = slice_get_within g.arcs a h.row h.is in
    omega arith

-- the least arc that such a walk begins with, or none
first_or_none : (g : Graph) (t v k : ℕ) → IsGraph g → ToldBelow g t k → HasLeast (BeginsWith g t v k) ⊎ ((a : ℕ) → BeginsWith g t v k a → ⊥)
first_or_none g t v k sound told =
    ⊎_elim
    (λ (found : HasLeast (BeginsWith g t v k)). inl found)
    (λ (none : (a : ℕ) → a < length g.arcs + 1 → BeginsWith g t v k a → ⊥). inr (λ a h. none a (begins_inside g t v k a h) h))
    (least_or_none (BeginsWith g t v k) (λ a. begins_by_arc g t v k a (arc_at g a) sound told refl) (length g.arcs + 1))

-- a walk that begins with no arc has none
no_arc : (g : Graph) (t v k : ℕ) (p : List ℕ) → IsWalk g v p t → walk_length g p ≡ k → ((a : ℕ) → BeginsWith g t v k a → ⊥) → (v ≡ t) × (k ≡ 0)
no_arc g t v k [] walk long none = (walk, sym long)
no_arc g t v k (a ∷ p) walk long none =
    let arc_long : length_at g a ≡ walk.0.length = ap row_length walk.1 in
    absurd (none a (record {
      row = walk.0;
      is = walk.1;
      tail = walk.2;
      left = walk_length g p;
      sum = omega arith;
      rest = record { path = p; walk = walk.3; long = refl };
    }))

tell_by_arcs : (g : Graph) (t v k : ℕ) → IsGraph g → ToldBelow g t k → Told g t v k
tell_by_arcs g t v k sound told =
    ⊎_elim
    (λ (found : HasLeast (BeginsWith g t v k)).
    let first = found.is in
    let arc_long : length_at g found.at ≡ first.row.length = ap row_length first.is in
    inl (record {
      path = found.at ∷ first.rest.path;
      walk = (first.row, first.is, first.tail, first.rest.walk);
      long = omega (arith, first.sum, first.rest.long);
    }))
    (λ (none : (a : ℕ) → BeginsWith g t v k a → ⊥).
    ⊎_elim
    (λ (same : v ≡ t).
    ⊎_elim
    (λ (nothing : k ≡ 0). inl (record { path = []; walk = same; long = sym nothing }))
    (λ (some : k ≡ 0 → ⊥). inr (λ h. some (no_arc g t v k h.path h.walk h.long none).1))
    (cases_eq k 0))
    (λ (other : v ≡ t → ⊥). inr (λ h. other (no_arc g t v k h.path h.walk h.long none).0))
    (cases_eq v t))
    (first_or_none g t v k sound told)

told_below : (n : ℕ) (g : Graph) (t : ℕ) → IsGraph g → ToldBelow g t n
told_below zero g t sound v k lt = absurd (omega arith)
told_below (suc n) g t sound v k lt =
    tell_by_arcs g t v k sound (λ u j less. told_below n g t sound u j (omega arith))

-- the least arc of a walk that is as long as the distance is the least tight one
least_tight : (g : Graph) (t v k : ℕ) → IsDist g v t (Some k) → (found : HasLeast (BeginsWith g t v k)) → IsLeastTight g t v found.at found.is.row found.is.left
least_tight g t v k dist found =
    let first = found.is in
    let long : length_at g found.at ≡ first.row.length = ap row_length first.is in
    record {
      tight = record {
        is = first.is;
        tail = first.tail;
        beyond = (
          first.rest,
          (λ p walk.
              let whole : k ≤ length_at g found.at + walk_length g p = dist.1 (found.at ∷ p) (first.row, first.is, first.tail, walk) in
              omega (arith, first.sum)),
        );
        whole = subst (λ (n : ℕ). IsDist g v t (Some n)) (sym first.sum) dist;
      };
      least = (λ b x near tight. found.least b (record {
        row = x;
        is = tight.is;
        tail = tight.tail;
        left = near;
        sum = IsDist-same g v t (x.length + near) k tight.whole dist;
        rest = tight.beyond.0;
      }));
    }

last_within : (n : ℕ) (g : Graph) (t v k : ℕ) → IsGraph g → k < n → IsDist g v t (Some k) → HasLast g v t
last_within zero g t v k sound lt dist = absurd (omega arith)
last_within (suc n) g t v k sound lt dist =
    ⊎_elim
    (λ (same : v ≡ t).
    let found : HasLast g v t = record { path = []; last = subst (λ (u : ℕ). IsLast g u [] t) (sym same) (IsLast-nil g t) } in
    found)
    (λ (other : v ≡ t → ⊥).
    ⊎_elim
    (λ (first : HasLeast (BeginsWith g t v k)).
    let one : 1 ≤ first.is.row.length = (IsArc-at g first.at first.is.row sound first.is.is).positive in
    let least : IsLeastTight g t v first.at first.is.row first.is.left = least_tight g t v k dist first in
    let rest = last_within n g t first.is.row.head first.is.left sound (omega (arith, first.is.sum)) least.tight.beyond in
    let found : HasLast g v t = record { path = first.at ∷ rest.path; last = IsLast-cons g t v first.at first.is.row first.is.left rest.path sound least rest.last } in
    found)
    (λ (none : (a : ℕ) → BeginsWith g t v k a → ⊥). absurd (other (no_arc g t v k dist.0.path dist.0.walk dist.0.long none).0))
    (first_or_none g t v k sound (told_below k g t sound)))
    (cases_eq v t)

pub last_of_dist : (g : Graph) (v t k : ℕ) → IsGraph g → IsDist g v t (Some k) → HasLast g v t
last_of_dist g v t k sound dist = last_within (suc k) g t v k sound (omega arith) dist

pub record HasFirst (g : Graph) (s v : ℕ) : Type 0 where
  pub path : List ℕ
  pub first : IsFirst g s path v

pub first_of_dist : (g : Graph) (s v k : ℕ) → IsGraph g → IsDist g s v (Some k) → HasFirst g s v
first_of_dist g s v k sound dist =
    let turned : HasLast (reversed g) v s = last_of_dist (reversed g) v s k (IsGraph-reversed g sound) (IsDist-reversed g s v (Some k) dist) in
    record { path = reverse turned.path; first = IsFirst-unreversed g s v turned.path turned.last }
