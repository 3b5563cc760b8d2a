-- Which pairs of places are stretched too far.
use Rattle.std.proofs.Common.{◌≡◌, ℕ, ◌≤◌, subst, arith}
use Rattle.road_model.specs.declared.trail.Trail.{Trail}
use Rattle.road_model.specs.Graph.{Graph}
use Rattle.road_model.specs.Fraction.{Fraction, Stretches, Exceeds}
use Rattle.road_model.specs.Places.{vertex_at, between, IsDistAt}
use Rattle.road_model.specs.Tests.{FailsStretch}
use Rattle.road_model.proofs.Dists.{IsDist-same}
use Rattle.path_tests.specs.JoinedTrail.{IsJoinedTrail}

-- a pair that is within the bound of its distance does not fail
pub stretch_passes : (old : Graph) (e : Fraction) (t : Trail) (i j d : ℕ) → IsDistAt old t i j d → Stretches e (between t i j) d → (c : ℕ) → FailsStretch old e t i j c → ⊥
stretch_passes old e t i j d h within c fails =
    let same : c ≡ d = IsDist-same old (vertex_at t i) (vertex_at t j) c d fails.dist h in
    let above : Exceeds e (between t i j) d = subst (λ (n : ℕ). Exceeds e (between t i j) n) same fails.above in
    omega arith

-- so a pair after the via does not
pub stretch_in_back : (old : Graph) (e : Fraction) (t : Trail) (via i j d : ℕ) → IsJoinedTrail old t via → via ≤ i → FailsStretch old e t i j d → ⊥
stretch_in_back old e t via i j d h le fails =
    stretch_passes old e t i j (between t i j) (h.back i j le (omega (arith, fails.rise)) fails.inside) (omega arith) d fails
