-- Vertices taken one after another.
use Rattle.std.proofs.Common.{◌≡◌, ◌≢◌, ◌+◌, ◌-◌, ◌<◌, ◌⊎◌, ℕ, zero, suc, List, [], ◌∷◌, ◌++◌, length, slice_index, set, sum, replicate, refl, sym, ap, ◌∙◌, subst, arith, inl, inr, ⊎_elim, get_or-set_same, get_or-set_other, length-append}
use Rattle.std.specs.List.{All, Contains}
use Rattle.std.proofs.Math.ListN.{length-set}
use Rattle.std.proofs.lemmas.List.Sums.{sum_by-set, sum_by-cons}
use Rattle.std.proofs.lemmas.List.Elements.{All-push, Contains-append_left, Contains-push}
use Rattle.road_model.specs.Graph.{IsVertex}
use Rattle.road_model.proofs.Basics.{same_or_other}
use Rattle.contraction_order.specs.Order.{IsOrder, AreTaken}

all_ones : (xs : List ℕ) → ((k : ℕ) → k < length xs → slice_index xs k ≡ 1) → sum xs ≡ length xs
all_ones [] h = refl
all_ones (x ∷ xs) h =
    let one : x ≡ 1 = h 0 (omega arith) in
    let rest : sum xs ≡ length xs = all_ones xs (λ k low. h (suc k) (omega arith)) in
    let more : sum (x ∷ xs) ≡ x + sum xs = sum_by-cons (λ (y : ℕ). y) x xs in
    omega arith

all_zeros : (n : ℕ) → sum (replicate n 0) ≡ 0
all_zeros zero = refl
all_zeros (suc n) =
    let more : sum (replicate (suc n) 0) ≡ 0 + sum (replicate n 0) = sum_by-cons (λ (y : ℕ). y) 0 (replicate n 0) in
    omega (arith, all_zeros n)

zero_at : (n k : ℕ) → slice_index (replicate n 0) k ≡ 0
zero_at zero k = refl
zero_at (suc n) zero = refl
zero_at (suc n) (suc k) = zero_at n k

pub AreTaken-none : (n : ℕ) → AreTaken (replicate n 0) []
AreTaken-none n =
    record {
      count = sym (all_zeros n);
      inside = (λ k d inside. absurd (let low : k < 0 = inside in omega arith));
      flags = (λ v is_v. inl (zero_at n (v - 1)));
    }

pub AreTaken-more : (taken vs : List ℕ) (v : ℕ) → AreTaken taken vs → IsVertex (length taken) v → slice_index taken (v - 1) ≡ 0 → AreTaken (set taken (v - 1) 1) (vs ++ v ∷ [])
AreTaken-more taken vs v h is_v free =
    let low = is_v.first in
    let high = is_v.last in
    let inside : v - 1 < length taken = omega arith in
    let size : length (set taken (v - 1) 1) ≡ length taken = length-set taken (v - 1) 1 in
    let total : sum (set taken (v - 1) 1) + slice_index taken (v - 1) ≡ sum taken + 1 = sum_by-set (λ (x : ℕ). x) taken (v - 1) 1 0 inside in
    let count = h.count in
    record {
      count = omega (arith, length-append vs (v ∷ []));
      inside = subst (λ (n : ℕ). All (IsVertex n) (vs ++ v ∷ [])) (sym size) (All-push (IsVertex (length taken)) vs v h.inside is_v);
      flags = (λ w at.
          let at_w : IsVertex (length taken) w = subst (λ (n : ℕ). IsVertex n w) size at in
          ⊎_elim
          (λ (same : w ≡ v).
          let is : slice_index (set taken (v - 1) 1) (v - 1) ≡ 1 = get_or-set_same taken (v - 1) 1 0 inside in
          let r : (slice_index (set taken (v - 1) 1) (w - 1) ≡ 0) ⊎ ((slice_index (set taken (v - 1) 1) (w - 1) ≡ 1) × Contains (vs ++ v ∷ []) w) =
          inr (ap (λ (x : ℕ). slice_index (set taken (v - 1) 1) (x - 1)) same ∙ is, subst (λ (x : ℕ). Contains (vs ++ v ∷ []) x) (sym same) (Contains-push vs v)) in r)
          (λ (other : w ≢ v).
          let low_w = at_w.first in
          let ne : w - 1 ≢ v - 1 = (λ e. other (omega arith)) in
          let is : slice_index (set taken (v - 1) 1) (w - 1) ≡ slice_index taken (w - 1) = get_or-set_other taken (v - 1) (w - 1) 1 0 ne in
          ⊎_elim
          (λ (none : slice_index taken (w - 1) ≡ 0).
          let r : (slice_index (set taken (v - 1) 1) (w - 1) ≡ 0) ⊎ ((slice_index (set taken (v - 1) 1) (w - 1) ≡ 1) × Contains (vs ++ v ∷ []) w) = inl (is ∙ none) in r)
          (λ (there : (slice_index taken (w - 1) ≡ 1) × Contains vs w).
          let r : (slice_index (set taken (v - 1) 1) (w - 1) ≡ 0) ⊎ ((slice_index (set taken (v - 1) 1) (w - 1) ≡ 1) × Contains (vs ++ v ∷ []) w) = inr (is ∙ there.0, Contains-append_left vs (v ∷ []) w there.1) in r)
          (h.flags w at_w))
          (same_or_other w v));
    }

pub one_stays : (taken : List ℕ) (at k : ℕ) → at < length taken → slice_index taken k ≡ 1 → slice_index (set taken at 1) k ≡ 1
one_stays taken at k inside one =
    ⊎_elim
    (λ (same : k ≡ at). ap (λ (x : ℕ). slice_index (set taken at 1) x) same ∙ get_or-set_same taken at 1 0 inside)
    (λ (other : k ≢ at). get_or-set_other taken at k 1 0 other ∙ one)
    (same_or_other k at)

pub IsOrder-taken : (n : ℕ) (taken vs : List ℕ) → length taken ≡ n → AreTaken taken vs → ((v : ℕ) → IsVertex n v → slice_index taken (v - 1) ≡ 1) → IsOrder n vs
IsOrder-taken n taken vs size h all =
    let ones : (k : ℕ) → k < length taken → slice_index taken k ≡ 1 = λ k low. (
    let is_v : IsVertex n (k + 1) = record { first = omega arith; last = omega arith } in
    let same : k + 1 - 1 ≡ k = omega arith in
    subst (λ (x : ℕ). slice_index taken x ≡ 1) same (all (k + 1) is_v)) in
    let total : sum taken ≡ length taken = all_ones taken ones in
    record {
      size = h.count ∙ total ∙ size;
      inside = subst (λ (m : ℕ). All (IsVertex m) vs) size h.inside;
      every = (λ v is_v.
          ⊎_elim
          (λ (none : slice_index taken (v - 1) ≡ 0). let one = all v is_v in let r : Contains vs v = absurd (omega arith) in r)
          (λ (there : (slice_index taken (v - 1) ≡ 1) × Contains vs v). there.1)
          (h.flags v (subst (λ (m : ℕ). IsVertex m v) (sym size) is_v)));
    }
