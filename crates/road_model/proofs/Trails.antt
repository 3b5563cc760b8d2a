-- The trail of a walk, taken arc by arc.
use Rattle.std.proofs.Common.{◌≡◌, ℕ, ◌+◌, ◌<◌, ◌≤◌, List, [], ◌∷◌, ◌++◌, length, get_or, drop, Some, refl, sym, ap, ◌∙◌, subst, arith, append_assoc}
use Rattle.std.proofs.lemmas.List.{drop_more}
use Rattle.road_model.specs.declared.rows.ArcRow.{ArcRow}
use Rattle.road_model.specs.Graph.{Graph, arc_at, head_at, length_at, row_head, row_length}
use Rattle.road_model.specs.Walk.{IsWalk, IsWalkFrom, walk_length}
use Rattle.road_model.specs.Places.{places, sums}

-- the first i arcs are taken: so far the places and sums before them, now at a vertex, with a sum
pub record OnTrail (g : Graph) (from : ℕ) (p : List ℕ) (i : ℕ) (vs ss : List ℕ) (now sum : ℕ) : Type 0 where
  pub inside : i ≤ length p
  pub vertices : vs ++ places g now (drop i p) ≡ places g from p
  pub lengths : ss ++ sums g sum (drop i p) ≡ sums g 0 p
  pub total : sum + walk_length g (drop i p) ≡ walk_length g p
  pub rest : IsWalkFrom g now (drop i p)

pub OnTrail-start : (g : Graph) (from : ℕ) (p : List ℕ) → IsWalkFrom g from p → OnTrail g from p 0 [] [] from 0
OnTrail-start g from p h = record { inside = omega arith; vertices = refl; lengths = refl; total = omega arith; rest = h }

OnTrail-rest : (g : Graph) (from : ℕ) (p : List ℕ) (i : ℕ) (vs ss : List ℕ) (now sum : ℕ) (a : ℕ) (q : List ℕ) (r : ArcRow) → i < length p → drop i p ≡ a ∷ q → drop (i + 1) p ≡ q → OnTrail g from p i vs ss now sum → arc_at g a ≡ Some r
    → OnTrail g from p (i + 1) (vs ++ now ∷ []) (ss ++ sum ∷ []) r.head (sum + r.length)
OnTrail-rest g from p i vs ss now sum a q r lt e d t is =
    let heads : head_at g a ≡ r.head = ap row_head is in
    let long : length_at g a ≡ r.length = ap row_length is in
    let vertices : vs ++ (now ∷ places g (head_at g a) q) ≡ places g from p = subst (λ (l : List ℕ). vs ++ places g now l ≡ places g from p) e t.vertices in
    let lengths : ss ++ (sum ∷ sums g (sum + length_at g a) q) ≡ sums g 0 p = subst (λ (l : List ℕ). ss ++ sums g sum l ≡ sums g 0 p) e t.lengths in
    let total : sum + (length_at g a + walk_length g q) ≡ walk_length g p = subst (λ (l : List ℕ). sum + walk_length g l ≡ walk_length g p) e t.total in
    let rest : IsWalk g now (a ∷ q) t.rest.end = subst (λ (l : List ℕ). IsWalk g now l t.rest.end) e t.rest.walk in
    let row : Some rest.0 ≡ Some r = sym rest.1 ∙ is in
    let same : rest.0 ≡ r = cc in
    let left : IsWalk g r.head q t.rest.end = subst (λ (x : ArcRow). IsWalk g x.head q t.rest.end) same rest.3 in
    record {
      inside = omega arith;
      vertices =
          subst (λ (l : List ℕ). (vs ++ now ∷ []) ++ places g r.head l ≡ places g from p) (sym d)
          (append_assoc vs (now ∷ []) (places g r.head q) ∙ (ap (λ (h : ℕ). vs ++ (now ∷ places g h q)) (sym heads) ∙ vertices));
      lengths =
          subst (λ (l : List ℕ). (ss ++ sum ∷ []) ++ sums g (sum + r.length) l ≡ sums g 0 p) (sym d)
          (append_assoc ss (sum ∷ []) (sums g (sum + r.length) q) ∙ (ap (λ (h : ℕ). ss ++ (sum ∷ sums g (sum + h) q)) (sym long) ∙ lengths));
      total = subst (λ (l : List ℕ). (sum + r.length) + walk_length g l ≡ walk_length g p) (sym d) (omega arith);
      rest = record { end = t.rest.end; walk = subst (λ (l : List ℕ). IsWalk g r.head l t.rest.end) (sym d) left };
    }

pub OnTrail-more : (g : Graph) (from : ℕ) (p : List ℕ) (i : ℕ) (vs ss : List ℕ) (now sum : ℕ) (r : ArcRow) → i < length p → OnTrail g from p i vs ss now sum → arc_at g (get_or p i 0) ≡ Some r
    → OnTrail g from p (i + 1) (vs ++ now ∷ []) (ss ++ sum ∷ []) r.head (sum + r.length)
OnTrail-more g from p i vs ss now sum r lt t is =
    OnTrail-rest g from p i vs ss now sum (get_or p i 0) (drop (i + 1) p) r lt (drop_more p i 0 lt) refl t is
