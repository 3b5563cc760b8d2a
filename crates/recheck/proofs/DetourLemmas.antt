-- Walks read arc by arc, and their lengths.
use Rattle.std.proofs.Common.{◌≡◌, ◌≢◌, ◌↔◌, ℕ, ◌+◌, ◌<◌, ◌≤◌, List, [], ◌∷◌, length, get_or, take, drop, Some, None, refl, sym, ap, ◌∙◌, subst, arith}
use Rattle.std.proofs.lemmas.List.{drop_more, drop_all}
use Rattle.std.proofs.lemmas.List.Sums.{sum_by_more}
use Rattle.road_model.specs.declared.rows.ArcRow.{ArcRow}
use Rattle.road_model.specs.Graph.{Graph, arc_at, head_at, length_at}
use Rattle.road_model.specs.Walk.{IsWalk, walk_length}
use Rattle.road_model.specs.Places.{places, sums}
use Rattle.road_model.specs.declared.trail.Trail.{Trail}
use Rattle.recheck.specs.Paths.{Ground, trail}
use Rattle.road_model.proofs.Walks.{walk_length-sum_by}

-- what is left to walk, after i arcs
pub record IsLeftToWalk (g : Graph) (u : ℕ) (p : List ℕ) (v i at : ℕ) : Type 0 where
  pub on : IsWalk g at (drop i p) v → IsWalk g u p v
  pub off : IsWalk g u p v → IsWalk g at (drop i p) v

same_row : (g : Graph) (a : ℕ) (x y : ArcRow) → arc_at g a ≡ Some x → arc_at g a ≡ Some y → x ≡ y
same_row g a x y is at = let e : Some x ≡ Some y = sym is ∙ at in cc

pub IsLeftToWalk-more : (g : Graph) (u v at head i a : ℕ) (p : List ℕ) (x : ArcRow) → IsLeftToWalk g u p v i at → i < length p → a ≡ get_or p i 0 → arc_at g a ≡ Some x → x.tail ≡ at → head ≡ x.head → IsLeftToWalk g u p v (i + 1) head
IsLeftToWalk-more g u v at head i a p x t lt is found tail end =
    let split : drop i p ≡ a ∷ drop (i + 1) p = drop_more p i 0 lt ∙ ap (λ (n : ℕ). n ∷ drop (i + 1) p) (sym is) in
    record {
      on = (λ w. t.on (subst (λ (l : List ℕ). IsWalk g at l v) (sym split) (x, found, tail, subst (λ (n : ℕ). IsWalk g n (drop (i + 1) p) v) end w)));
      off = (λ w.
          let rest : IsWalk g at (a ∷ drop (i + 1) p) v = subst (λ (l : List ℕ). IsWalk g at l v) split (t.off w) in
          subst (λ (n : ℕ). IsWalk g n (drop (i + 1) p) v) (ap (λ (r : ArcRow). r.head) (same_row g a rest.0 x rest.1 found) ∙ sym end) rest.3);
    }

-- the next arc isn't there
pub no_arc : (g : Graph) (u v at i a : ℕ) (p : List ℕ) → IsLeftToWalk g u p v i at → i < length p → a ≡ get_or p i 0 → arc_at g a ≡ None → IsWalk g u p v → ⊥
no_arc g u v at i a p t lt is none w =
    let split : drop i p ≡ a ∷ drop (i + 1) p = drop_more p i 0 lt ∙ ap (λ (n : ℕ). n ∷ drop (i + 1) p) (sym is) in
    let rest : IsWalk g at (a ∷ drop (i + 1) p) v = subst (λ (l : List ℕ). IsWalk g at l v) split (t.off w) in
    let e : None ≡ Some rest.0 = sym none ∙ rest.1 in
    cc

-- it begins elsewhere
pub other_tail : (g : Graph) (u v at i a : ℕ) (p : List ℕ) (x : ArcRow) → IsLeftToWalk g u p v i at → i < length p → a ≡ get_or p i 0 → arc_at g a ≡ Some x → x.tail ≢ at → IsWalk g u p v → ⊥
other_tail g u v at i a p x t lt is found other w =
    let split : drop i p ≡ a ∷ drop (i + 1) p = drop_more p i 0 lt ∙ ap (λ (n : ℕ). n ∷ drop (i + 1) p) (sym is) in
    let rest : IsWalk g at (a ∷ drop (i + 1) p) v = subst (λ (l : List ℕ). IsWalk g at l v) split (t.off w) in
    other (ap (λ (r : ArcRow). r.tail) (same_row g a x rest.0 found rest.1) ∙ rest.2)

pub walk_done : (g : Graph) (u v at i : ℕ) (p : List ℕ) → IsLeftToWalk g u p v i at → length p ≤ i → (at ≡ v) ↔ IsWalk g u p v
walk_done g u v at i p t ge =
    let done : drop i p ≡ [] = drop_all i p ge in (
      (λ is. t.on (subst (λ (l : List ℕ). IsWalk g at l v) (sym done) is)),
      (λ w. subst (λ (l : List ℕ). IsWalk g at l v) done (t.off w)),
    )

pub length_more : (g : Graph) (p : List ℕ) (i a long : ℕ) → i < length p → a ≡ get_or p i 0 → long ≡ length_at g a → walk_length g (take (i + 1) p) ≡ walk_length g (take i p) + long
length_more g p i a long lt is adds =
    walk_length-sum_by g (take (i + 1) p)
    ∙ sum_by_more (λ x. length_at g x) p i 0 lt
    ∙ ap (λ (n : ℕ). n + length_at g (get_or p i 0)) (sym (walk_length-sum_by g (take i p)))
    ∙ ap (λ (n : ℕ). walk_length g (take i p) + n) (sym (adds ∙ ap (λ (n : ℕ). length_at g n) is))

pub length-places : (g : Graph) (u : ℕ) (p : List ℕ) → length (places g u p) ≡ length p + 1
length-places g u [] = refl
length-places g u (a ∷ p) = omega (arith, length-places g (head_at g a) p)

pub length-sums : (g : Graph) (k : ℕ) (p : List ℕ) → length (sums g k p) ≡ length p + 1
length-sums g k [] = refl
length-sums g k (a ∷ p) = omega (arith, length-sums g (k + length_at g a) p)

-- a place of a path is one of its trail
pub vertex_inside : (o : Ground) (p : List ℕ) (t : Trail) (i : ℕ) → t ≡ trail o p → i ≤ length p → i < length t.vertices
vertex_inside o p t i is le =
    let long : length t.vertices ≡ length p + 1 = ap (λ (x : Trail). length x.vertices) is ∙ length-places o.graph o.query.from p in
    omega arith

pub sum_inside : (o : Ground) (p : List ℕ) (t : Trail) (i : ℕ) → t ≡ trail o p → i ≤ length p → i < length t.sums
sum_inside o p t i is le =
    let long : length t.sums ≡ length p + 1 = ap (λ (x : Trail). length x.sums) is ∙ length-sums o.graph 0 p in
    omega arith
