-- Distances one after another.
use Rattle.std.proofs.Common.{◌≡◌, ◌+◌, ◌-◌, ◌<◌, ◌≤◌, ℕ, List, [], ◌∷◌, ◌++◌, Option, None, length, slice_index, slice_index_or, refl, sym, ap, ◌∙◌, subst, arith, ⊎_elim, length-append}
use Rattle.std.proofs.lemmas.Bool.{cases_lt}
use Rattle.std.proofs.lemmas.List.{get_or_append_left, get_or-append_right}
use Rattle.road_model.specs.Graph.{Graph}
use Rattle.road_model.specs.Dist.{IsDist}
use Rattle.hierarchy_query.specs.Tables.{AreDists}

-- to the first i of them
pub record DistsSoFar (g : Graph) (u : ℕ) (vs : List ℕ) (i : ℕ) (ds : List (Option ℕ)) : Type 0 where
  pub size : length ds ≡ i
  pub each : (k : ℕ) → k < i → IsDist g u (slice_index vs k) (slice_index_or ds k None)

pub DistsSoFar-more : (g : Graph) (u : ℕ) (vs : List ℕ) (i v : ℕ) (ds : List (Option ℕ)) (d : Option ℕ) → v ≡ slice_index vs i → DistsSoFar g u vs i ds → IsDist g u v d → DistsSoFar g u vs (i + 1) (ds ++ d ∷ [])
DistsSoFar-more g u vs i v ds d is h here =
    let size = h.size in
    record {
      size = omega (arith, length-append ds (d ∷ []));
      each = (λ k lt.
          ⊎_elim
          (λ (old : k < i).
          let read : slice_index_or (ds ++ d ∷ []) k None ≡ slice_index_or ds k None = get_or_append_left ds (d ∷ []) None k (omega arith) in
          subst (λ (e : Option ℕ). IsDist g u (slice_index vs k) e) (sym read) (h.each k old))
          (λ (new : i ≤ k).
          let same : k ≡ length ds = omega arith in
          let at : i ≡ k = omega arith in
          let minus : length ds - length ds ≡ 0 = omega arith in
          let read : slice_index_or (ds ++ d ∷ []) k None ≡ d =
          ap (λ (j : ℕ). slice_index_or (ds ++ d ∷ []) j None) same ∙ get_or-append_right ds (d ∷ []) (length ds) (length ds) None refl (omega arith) ∙ ap (λ (j : ℕ). slice_index_or (d ∷ []) j None) minus in
          subst (λ (e : Option ℕ). IsDist g u (slice_index vs k) e) (sym read)
          (subst (λ (j : ℕ). IsDist g u (slice_index vs j) d) at (subst (λ (w : ℕ). IsDist g u w d) is here)))
          (cases_lt k i));
    }

pub AreDists-all : (g : Graph) (u : ℕ) (vs : List ℕ) (i : ℕ) (ds : List (Option ℕ)) → i ≡ length vs → DistsSoFar g u vs i ds → AreDists g u vs ds
AreDists-all g u vs i ds all h =
    record { size = h.size ∙ all; each = (λ k lt. h.each k (omega arith)) }
