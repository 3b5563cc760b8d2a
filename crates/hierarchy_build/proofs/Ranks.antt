-- The rank of each vertex.
use Rattle.std.proofs.Common.{◌≡◌, ◌≢◌, ◌+◌, ◌<◌, ◌≤◌, ℕ, List, length, slice_index, set, refl, sym, ap, ◌∙◌, subst, arith, ⊎_elim, get_or-set_same, get_or-set_other}
use Rattle.std.specs.List.{Contains}
use Rattle.std.proofs.Math.ListN.{length-set}
use Rattle.std.proofs.lemmas.Bool.{cases_lt}
use Rattle.std.proofs.lemmas.List.{get_or_default}
use Rattle.std.proofs.lemmas.List.Elements.{All-get_or}
use Rattle.road_model.specs.Graph.{IsVertex}
use Rattle.road_model.proofs.Basics.{same_or_other}
use Rattle.contraction_order.specs.Order.{IsOrder}
use Rattle.hierarchy_build.specs.Runs.{IsRanked}

-- of the first i vertices of an order
pub record RanksSoFar (order : List ℕ) (i : ℕ) (rank : List ℕ) : Type 0 where
  pub size : length rank ≡ length order + 1
  pub low : (k : ℕ) → k < i → slice_index rank (slice_index order k) < i
  pub back : (k : ℕ) → k < i → slice_index order (slice_index rank (slice_index order k)) ≡ slice_index order k

pub RanksSoFar-more : (order : List ℕ) (i v : ℕ) (rank : List ℕ) → IsOrder (length order) order → i < length order → v ≡ slice_index order i → RanksSoFar order i rank → RanksSoFar order (i + 1) (set rank v i)
RanksSoFar-more order i v rank o inside is h =
    let is_v : IsVertex (length order) (slice_index order i) = All-get_or (IsVertex (length order)) order i 0 inside o.inside in
    let high = is_v.last in
    let size' = h.size in
    let there : v < length rank = omega arith in
    let here : slice_index (set rank v i) v ≡ i = get_or-set_same rank v i 0 there in
    record {
      size = length-set rank v i ∙ h.size;
      low = (λ k lt.
          ⊎_elim
          (λ (same : slice_index order k ≡ v).
          let at : slice_index (set rank v i) (slice_index order k) ≡ i = ap (λ (x : ℕ). slice_index (set rank v i) x) same ∙ here in
          let r : slice_index (set rank v i) (slice_index order k) < i + 1 = omega arith in r)
          (λ (other : slice_index order k ≢ v).
          let still : slice_index (set rank v i) (slice_index order k) ≡ slice_index rank (slice_index order k) = get_or-set_other rank v (slice_index order k) i 0 other in
          ⊎_elim
          (λ (old : k < i). let was = h.low k old in let r : slice_index (set rank v i) (slice_index order k) < i + 1 = omega arith in r)
          (λ (new : i ≤ k). let e : k ≡ i = omega arith in let r : slice_index (set rank v i) (slice_index order k) < i + 1 = absurd (other (ap (λ (x : ℕ). slice_index order x) e ∙ sym is)) in r)
          (cases_lt k i))
          (same_or_other (slice_index order k) v));
      back = (λ k lt.
          ⊎_elim
          (λ (same : slice_index order k ≡ v).
          let at : slice_index (set rank v i) (slice_index order k) ≡ i = ap (λ (x : ℕ). slice_index (set rank v i) x) same ∙ here in
          ap (λ (x : ℕ). slice_index order x) at ∙ sym is ∙ sym same)
          (λ (other : slice_index order k ≢ v).
          let still : slice_index (set rank v i) (slice_index order k) ≡ slice_index rank (slice_index order k) = get_or-set_other rank v (slice_index order k) i 0 other in
          ⊎_elim
          (λ (old : k < i). ap (λ (x : ℕ). slice_index order x) still ∙ h.back k old)
          (λ (new : i ≤ k). let e : k ≡ i = omega arith in let r : slice_index order (slice_index (set rank v i) (slice_index order k)) ≡ slice_index order k = absurd (other (ap (λ (x : ℕ). slice_index order x) e ∙ sym is)) in r)
          (cases_lt k i))
          (same_or_other (slice_index order k) v));
    }

pub IsRanked-all : (order : List ℕ) (i : ℕ) (rank : List ℕ) → IsOrder (length order) order → i ≡ length order → RanksSoFar order i rank → IsRanked (length order) order rank
IsRanked-all order i rank o all h =
    record {
      order_size = refl;
      rank_size = h.size;
      inside = (λ v is_v.
          let there : Contains order v = o.every v is_v in
          let low : slice_index rank (slice_index order there.0) < i = h.low there.0 (let b = there.1 in omega arith) in
          let at : slice_index rank (slice_index order there.0) < length order = omega arith in
          subst (λ (x : ℕ). slice_index rank x < length order) (sym (get_or_default order there.0 v 0 there.1) ∙ there.2) at);
      back = (λ v is_v.
          let there : Contains order v = o.every v is_v in
          let is : slice_index order (slice_index rank (slice_index order there.0)) ≡ slice_index order there.0 = h.back there.0 (let b = there.1 in omega arith) in
          subst (λ (x : ℕ). slice_index order (slice_index rank x) ≡ x) (sym (get_or_default order there.0 v 0 there.1) ∙ there.2) is);
    }
