-- Which pairs of places can fail a test.
use Rattle.std.proofs.Common.{◌≡◌, ℕ, ◌+◌, ◌*◌, ◌<◌, ◌≤◌, ◌⊎◌, List, [], ◌∷◌, ◌++◌, length, Some, sym, ap, ◌∙◌, subst, arith, inl, inr, ◌≢◌}
use Rattle.std.proofs.Math.Nat.{mul-le-mul_right, mul_comm}
use Rattle.std.proofs.lemmas.Bool.{cases_eq}
use Rattle.road_model.specs.Graph.{Graph}
use Rattle.road_model.specs.Walk.{IsWalk, walk_length}
use Rattle.road_model.specs.Dist.{IsDist, IsShortest}
use Rattle.road_model.specs.Fraction.{Fraction}
use Rattle.road_model.specs.Places.{trail_of, between, IsDistAt}
use Rattle.road_model.specs.Tests.{FailsLocal, NoneFails}
use Rattle.road_model.specs.Alternatives.{IsVia}
use Rattle.road_model.proofs.Parts.{dist_in_prefix, dist_in_back, length-places, whole_sum, whole_dist}

via_parts : (g : Graph) (s t v : ℕ) (f b : List ℕ) (i j : ℕ) → IsShortest g s f v → IsShortest g v b t → i ≤ j → j ≤ length (f ++ b) → (j ≤ length f) ⊎ (length f ≤ i) → IsDistAt g (trail_of g s (f ++ b)) i j (between (trail_of g s (f ++ b)) i j)
via_parts g s t v f b i j h k le inside (inl prefix) = dist_in_prefix g s v f b i j h le prefix
via_parts g s t v f b i j h k le inside (inr beyond) = dist_in_back g s v t f b i j h.walk k beyond le inside

pub via_parts_lem : (g : Graph) (s t v : ℕ) (p : List ℕ) (through : IsVia g s t v p) (i j : ℕ) → i ≤ j → j ≤ length p → (j ≤ length through.prefix) ⊎ (length through.prefix ≤ i) → IsDistAt g (trail_of g s p) i j (between (trail_of g s p) i j)
via_parts_lem g s t v p through i j le inside side =
    subst (λ (l : List ℕ). IsDistAt g (trail_of g s l) i j (between (trail_of g s l) i j)) (sym through.joined)
    (via_parts g s t v through.prefix through.back i j through.first.shortest through.last.shortest le
    (subst (λ (l : List ℕ). j ≤ length l) through.joined inside) side)

-- where the whole is tested and doesn't fail, it is as long as the distance
whole_is_dist : (g : Graph) (alpha : Fraction) (u v l d : ℕ) (p : List ℕ) → alpha.num ≡ alpha.den → 0 < length p → IsWalk g u p v → IsDist g u v (Some d) → walk_length g p ≤ l → NoneFails (FailsLocal g alpha l (trail_of g u p)) → (walk_length g p ≡ d) ⊎ (walk_length g p ≢ d) → walk_length g p ≡ d
whole_is_dist g alpha u v l d p one has walk h short none (inl is) = is
whole_is_dist g alpha u v l d p one has walk h short none (inr other) =
    let sum : between (trail_of g u p) 0 (length p) ≡ walk_length g p = whole_sum g u p in
    let le : walk_length g p * alpha.den ≤ l * alpha.den = mul-le-mul_right alpha.den short in
    let turned : l * alpha.den ≡ alpha.num * l = mul_comm l alpha.den ∙ ap (λ (n : ℕ). n * l) (sym one) in
    let scaled : between (trail_of g u p) 0 (length p) * alpha.den ≡ walk_length g p * alpha.den = ap (λ (n : ℕ). n * alpha.den) sum in
    let le' : between (trail_of g u p) 0 (length p) * alpha.den ≤ alpha.num * l = omega arith in
    absurd (none 0 (length p) d (record {
      rise = has;
      inside = omega (arith, length-places g u p);
      tested = inl le';
      dist = whole_dist g u v d p walk h;
      other = (λ (e : between (trail_of g u p) 0 (length p) ≡ d). other (sym sum ∙ e));
    }))

pub locally_optimal_lem : (g : Graph) (alpha : Fraction) (u v l d : ℕ) (p : List ℕ) → alpha.num ≡ alpha.den → IsWalk g u p v → IsDist g u v (Some d) → walk_length g p ≤ l → NoneFails (FailsLocal g alpha l (trail_of g u p)) → IsShortest g u p v
locally_optimal_lem g alpha u v l d [] one walk h short none = record { walk = walk; least = (λ q w. omega arith) }
locally_optimal_lem g alpha u v l d (a ∷ p) one walk h short none =
    let is : walk_length g (a ∷ p) ≡ d = whole_is_dist g alpha u v l d (a ∷ p) one (omega arith) walk h short none (cases_eq (walk_length g (a ∷ p)) d) in
    record { walk = walk; least = (λ q w. omega (arith, h.1 q w)) }
