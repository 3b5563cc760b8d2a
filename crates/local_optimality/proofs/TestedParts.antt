-- Which subpaths are tested.
use Rattle.std.proofs.Common.{◌≡◌, ℕ, zero, suc, ◌+◌, ◌-◌, ◌<◌, ◌≤◌, length, get_or, subst, arith, inl, inr}
use Rattle.std.proofs.Math.Nat.{mul-le-mul_right}
use Rattle.road_model.specs.declared.trail.Trail.{Trail}
use Rattle.road_model.specs.Fraction.{Fraction, Allows, IsBelow}
use Rattle.road_model.specs.Places.{between}
use Rattle.road_model.specs.Tests.{IsTested}
use Rattle.local_optimality.specs.Detour.{HasRisingSums}

Allows-less : (f : Fraction) (a b l : ℕ) → a ≤ b → Allows f b l → Allows f a l
Allows-less f a b l le h = omega (arith, mul-le-mul_right f.den le)

IsBelow-less : (f : Fraction) (a b l : ℕ) → a ≤ b → IsBelow f b l → IsBelow f a l
IsBelow-less f a b l le h = omega (arith, mul-le-mul_right f.den le)

-- with one that is tested, each that ends earlier is, if it has two arcs
pub IsTested-earlier : (f : Fraction) (l : ℕ) (t : Trail) (i k j : ℕ) → HasRisingSums t → i + 2 ≤ k → k ≤ j → j < length t.vertices → IsTested f l t i j → IsTested f l t i k
IsTested-earlier f l t i k j r apart le lt (inl h) =
    let whole : get_or t.sums k 0 ≤ get_or t.sums j 0 = r.rising k j le lt in
    let shorter : between t i k ≤ between t i j = omega arith in
    inl (Allows-less f (between t i k) (between t i j) l shorter h)
IsTested-earlier f l t i k j r apart le lt (inr h) =
    let whole : get_or t.sums (k - 1) 0 ≤ get_or t.sums (j - 1) 0 = r.rising (k - 1) (j - 1) (omega arith) (omega arith) in
    let shorter : between t (i + 1) (k - 1) ≤ between t (i + 1) (j - 1) = omega arith in
    inr (apart, IsBelow-less f (between t (i + 1) (k - 1)) (between t (i + 1) (j - 1)) l shorter h.1)

-- and the one that begins a place later, if it has two arcs
pub IsTested-later : (f : Fraction) (l : ℕ) (t : Trail) (i j : ℕ) → HasRisingSums t → i + 3 ≤ j → j < length t.vertices → IsTested f l t i j → IsTested f l t (i + 1) j
IsTested-later f l t i j r apart lt (inl h) =
    let whole : get_or t.sums i 0 ≤ get_or t.sums (i + 1) 0 = r.rising i (i + 1) (omega arith) (omega arith) in
    let shorter : between t (i + 1) j ≤ between t i j = omega arith in
    inl (Allows-less f (between t (i + 1) j) (between t i j) l shorter h)
IsTested-later f l t i j r apart lt (inr h) =
    let whole : get_or t.sums (i + 1) 0 ≤ get_or t.sums (i + 1 + 1) 0 = r.rising (i + 1) (i + 1 + 1) (omega arith) (omega arith) in
    let shorter : between t (i + 1 + 1) (j - 1) ≤ between t (i + 1) (j - 1) = omega arith in
    inr (omega arith, IsBelow-less f (between t (i + 1 + 1) (j - 1)) (between t (i + 1) (j - 1)) l shorter h.1)

-- and the one that begins some places later
pub IsTested-up : (f : Fraction) (l : ℕ) (t : Trail) (i n j : ℕ) → HasRisingSums t → i + n + 2 ≤ j → j < length t.vertices → IsTested f l t i j → IsTested f l t (i + n) j
IsTested-up f l t i zero j r apart lt h =
    let same : i ≡ i + 0 = omega arith in
    subst (λ (x : ℕ). IsTested f l t x j) same h
IsTested-up f l t i (suc n) j r apart lt h =
    let one : IsTested f l t (i + n) j = IsTested-up f l t i n j r (omega arith) lt h in
    let next : IsTested f l t (i + n + 1) j = IsTested-later f l t (i + n) j r (omega arith) lt one in
    let same : i + n + 1 ≡ i + suc n = omega arith in
    subst (λ (x : ℕ). IsTested f l t x j) same next
