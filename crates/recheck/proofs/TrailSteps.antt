-- The trail of a list of arc numbers, taken arc by arc.
use Rattle.std.proofs.Common.{◌≡◌, ℕ, ◌+◌, ◌*◌, ◌<◌, ◌≤◌, ◌^◌, List, [], ◌∷◌, ◌++◌, length, get_or, drop, All, sym, ap, ◌∙◌, subst, arith, append_assoc}
use Rattle.std.proofs.lemmas.List.{drop_more, drop_all}
use Rattle.std.proofs.lemmas.List.Elements.{All-push}
use Rattle.road_model.specs.Graph.{Graph, head_at, length_at}
use Rattle.road_model.specs.Places.{places, sums}

-- the first i arcs are taken: so far the places and sums before them, now at a vertex, with a sum
pub record TakesTo (g : Graph) (from : ℕ) (p : List ℕ) (i : ℕ) (vs ss : List ℕ) (now sum : ℕ) : Type 0 where
  pub vertices : vs ++ places g now (drop i p) ≡ places g from p
  pub lengths : ss ++ sums g sum (drop i p) ≡ sums g 0 p
  pub low : sum ≤ 4294967296 * i
  pub each : All (λ s. s < 2 ^ 96) ss

pub places_more : (g : Graph) (from : ℕ) (p : List ℕ) (i : ℕ) (vs : List ℕ) (now head a : ℕ) → i < length p → a ≡ get_or p i 0 → head ≡ head_at g a
    → vs ++ places g now (drop i p) ≡ places g from p → (vs ++ now ∷ []) ++ places g head (drop (i + 1) p) ≡ places g from p
places_more g from p i vs now head a lt is heads h =
    append_assoc vs (now ∷ []) (places g head (drop (i + 1) p))
    ∙ ap (λ (x : ℕ). vs ++ (now ∷ places g x (drop (i + 1) p))) (heads ∙ ap (λ (x : ℕ). head_at g x) is)
    ∙ ap (λ (l : List ℕ). vs ++ places g now l) (sym (drop_more p i 0 lt))
    ∙ h

pub sums_more : (g : Graph) (p : List ℕ) (i : ℕ) (ss : List ℕ) (sum long a : ℕ) → i < length p → a ≡ get_or p i 0 → long ≡ length_at g a
    → ss ++ sums g sum (drop i p) ≡ sums g 0 p → (ss ++ sum ∷ []) ++ sums g (sum + long) (drop (i + 1) p) ≡ sums g 0 p
sums_more g p i ss sum long a lt is longs h =
    append_assoc ss (sum ∷ []) (sums g (sum + long) (drop (i + 1) p))
    ∙ ap (λ (x : ℕ). ss ++ (sum ∷ sums g (sum + x) (drop (i + 1) p))) (longs ∙ ap (λ (x : ℕ). length_at g x) is)
    ∙ ap (λ (l : List ℕ). ss ++ sums g sum l) (sym (drop_more p i 0 lt))
    ∙ h

pub TakesTo-more : (g : Graph) (from : ℕ) (p : List ℕ) (i : ℕ) (vs ss ws rs : List ℕ) (now sum head long a : ℕ) → TakesTo g from p i vs ss now sum → i < length p → i < 2 ^ 64 → a ≡ get_or p i 0
    → ws ≡ vs ++ now ∷ [] → rs ≡ ss ++ sum ∷ [] → head ≡ head_at g a → long ≡ length_at g a → long < 2 ^ 32 → TakesTo g from p (i + 1) ws rs head (sum + long)
TakesTo-more g from p i vs ss ws rs now sum head long a t lt few is more longer heads longs short =
    record {
      vertices = subst (λ (l : List ℕ). l ++ places g head (drop (i + 1) p) ≡ places g from p) (sym more) (places_more g from p i vs now head a lt is heads t.vertices);
      lengths = subst (λ (l : List ℕ). l ++ sums g (sum + long) (drop (i + 1) p) ≡ sums g 0 p) (sym longer) (sums_more g p i ss sum long a lt is longs t.lengths);
      low = omega arith;
      each = subst (λ (l : List ℕ). All (λ s. s < 2 ^ 96) l) (sym longer) (All-push (λ s. s < 2 ^ 96) ss sum t.each (omega arith));
    }

-- at the end the last place is still to be added
pub TakesTo-end : (g : Graph) (from : ℕ) (p : List ℕ) (i : ℕ) (vs ss ws rs : List ℕ) (now sum : ℕ) → TakesTo g from p i vs ss now sum → length p ≤ i → ws ≡ vs ++ now ∷ [] → rs ≡ ss ++ sum ∷ []
    → (ws ≡ places g from p) × (rs ≡ sums g 0 p)
TakesTo-end g from p i vs ss ws rs now sum t ge more longer =
    let done : drop i p ≡ [] = drop_all i p ge in (
      more ∙ subst (λ (l : List ℕ). vs ++ places g now l ≡ places g from p) done t.vertices,
      longer ∙ subst (λ (l : List ℕ). ss ++ sums g sum l ≡ sums g 0 p) done t.lengths,
    )
