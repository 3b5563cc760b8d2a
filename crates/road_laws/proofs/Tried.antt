-- The tests on the worked graphs, pair by pair.
use Rattle.std.proofs.Common.{◌≡◌, ℕ, ◌+◌, ◌*◌, ◌<◌, ◌≤◌, zero, suc, List, [], ◌∷◌, ◌++◌, Some, refl, sym, ap, ◌∙◌, subst, arith, inl, inr}
use Rattle.road_model.specs.declared.rows.ArcRow.{ArcRow}
use Rattle.road_model.specs.declared.trail.Trail.{Trail}
use Rattle.road_model.specs.Graph.{Graph, length_at}
use Rattle.road_model.specs.Walk.{IsWalk, walk_length}
use Rattle.road_model.specs.Dist.{IsDist, IsShortest}
use Rattle.road_model.specs.Fraction.{Fraction}
use Rattle.road_model.specs.Places.{trail_of, vertex_at, between, IsDistAt}
use Rattle.road_model.specs.Tests.{IsTested, FailsLocal, FailsStretch, NoneFails, IsLeastFailure}
use Rattle.road_model.specs.Alternatives.{IsVia, HasNoVia, IsAdmissible}
use Rattle.road_model.proofs.Dists.{IsDist-same}
use Rattle.road_model.specs.Queries.{ratio, usual}
use Rattle.road_laws.specs.Worked.{arc, graph_a, graph_b, graph_s}
use Rattle.road_laws.proofs.Potentials.{dist_by, none_by}
use Rattle.road_laws.proofs.Walked.{dist_1_6}

abbrev trail_a : Trail
trail_a = trail_of graph_a 1 (3 ∷ 4 ∷ 5 ∷ [])

abbrev pub from_1 : List ℕ
from_1 = 0 ∷ 0 ∷ 10 ∷ 11 ∷ 17 ∷ 100 ∷ 20 ∷ []

abbrev from_3 : List ℕ
from_3 = 0 ∷ 100 ∷ 100 ∷ 0 ∷ 6 ∷ 100 ∷ 11 ∷ []

abbrev pub from_4 : List ℕ
from_4 = 0 ∷ 100 ∷ 100 ∷ 100 ∷ 0 ∷ 100 ∷ 5 ∷ []

dist_1_3 : IsDist graph_a 1 3 (Some 11)
dist_1_3 = dist_by from_1 graph_a 1 3 (3 ∷ []) refl (arc 1 3 11, refl, refl, refl) refl refl

dist_1_4 : IsDist graph_a 1 4 (Some 17)
dist_1_4 = dist_by from_1 graph_a 1 4 (3 ∷ 4 ∷ []) refl (arc 1 3 11, refl, refl, (arc 3 4 6, refl, refl, refl)) refl refl

dist_3_4 : IsDist graph_a 3 4 (Some 6)
dist_3_4 = dist_by from_3 graph_a 3 4 (4 ∷ []) refl (arc 3 4 6, refl, refl, refl) refl refl

dist_3_6 : IsDist graph_a 3 6 (Some 11)
dist_3_6 = dist_by from_3 graph_a 3 6 (4 ∷ 5 ∷ []) refl (arc 3 4 6, refl, refl, (arc 4 6 5, refl, refl, refl)) refl refl

dist_4_6 : IsDist graph_a 4 6 (Some 5)
dist_4_6 = dist_by from_4 graph_a 4 6 (5 ∷ []) refl (arc 4 6 5, refl, refl, refl) refl refl

-- a pair that is as long as the distance doesn't fail
exact : (g : Graph) (alpha : Fraction) (l : ℕ) (t : Trail) (i j d k : ℕ) → FailsLocal g alpha l t i j d → IsDistAt g t i j k → between t i j ≡ k → ⊥
exact g alpha l t i j d k h is e = h.other (e ∙ IsDist-same g (vertex_at t i) (vertex_at t j) k d is h.dist)

-- nor does it fail a stretch that is allowed
allowed : (g : Graph) (epsilon : Fraction) (t : Trail) (i j d k : ℕ) → FailsStretch g epsilon t i j d → IsDistAt g t i j k → between t i j * epsilon.den ≤ (epsilon.den + epsilon.num) * k → ⊥
allowed g epsilon t i j d k h is e =
    let same : d ≡ k = IsDist-same g (vertex_at t i) (vertex_at t j) d k h.dist is in
    let above : (epsilon.den + epsilon.num) * k < between t i j * epsilon.den = subst (λ (n : ℕ). (epsilon.den + epsilon.num) * n < between t i j * epsilon.den) same h.above in
    omega arith

-- of the walk 3 4 5 only the whole can fail local optimality, and only if it is tested
pub local_a : (alpha : Fraction) (i j d : ℕ) → FailsLocal graph_a alpha 20 trail_a i j d → (i ≡ 0) × (j ≡ 3)
local_a alpha zero zero d h = absurd (omega (arith, h.rise))
local_a alpha zero (suc zero) d h = absurd (exact graph_a alpha 20 trail_a 0 1 d 11 h dist_1_3 refl)
local_a alpha zero (suc (suc zero)) d h = absurd (exact graph_a alpha 20 trail_a 0 2 d 17 h dist_1_4 refl)
local_a alpha zero (suc (suc (suc zero))) d h = (refl, refl)
local_a alpha zero (suc (suc (suc (suc j)))) d h = absurd (omega (arith, h.inside))
local_a alpha (suc zero) zero d h = absurd (omega (arith, h.rise))
local_a alpha (suc zero) (suc zero) d h = absurd (omega (arith, h.rise))
local_a alpha (suc zero) (suc (suc zero)) d h = absurd (exact graph_a alpha 20 trail_a 1 2 d 6 h dist_3_4 refl)
local_a alpha (suc zero) (suc (suc (suc zero))) d h = absurd (exact graph_a alpha 20 trail_a 1 3 d 11 h dist_3_6 refl)
local_a alpha (suc zero) (suc (suc (suc (suc j)))) d h = absurd (omega (arith, h.inside))
local_a alpha (suc (suc zero)) zero d h = absurd (omega (arith, h.rise))
local_a alpha (suc (suc zero)) (suc zero) d h = absurd (omega (arith, h.rise))
local_a alpha (suc (suc zero)) (suc (suc zero)) d h = absurd (omega (arith, h.rise))
local_a alpha (suc (suc zero)) (suc (suc (suc zero))) d h = absurd (exact graph_a alpha 20 trail_a 2 3 d 5 h dist_4_6 refl)
local_a alpha (suc (suc zero)) (suc (suc (suc (suc j)))) d h = absurd (omega (arith, h.inside))
local_a alpha (suc (suc (suc i))) j d h = absurd (omega (arith, h.rise, h.inside))

pub none_local_a : (alpha : Fraction) → (IsTested alpha 20 trail_a 0 3 → ⊥) → NoneFails (FailsLocal graph_a alpha 20 trail_a)
none_local_a alpha untested i j d h =
    let at : (i ≡ 0) × (j ≡ 3) = local_a alpha i j d h in
    untested (subst (λ (n : ℕ). IsTested alpha 20 trail_a n 3) at.0 (subst (λ (n : ℕ). IsTested alpha 20 trail_a i n) at.1 h.tested))

none_stretch_a : (i j d : ℕ) → FailsStretch graph_a (ratio 1 4) trail_a i j d → ⊥
none_stretch_a zero zero d h = omega (arith, h.rise)
none_stretch_a zero (suc zero) d h = allowed graph_a (ratio 1 4) trail_a 0 1 d 11 h dist_1_3 (omega arith)
none_stretch_a zero (suc (suc zero)) d h = allowed graph_a (ratio 1 4) trail_a 0 2 d 17 h dist_1_4 (omega arith)
none_stretch_a zero (suc (suc (suc zero))) d h = allowed graph_a (ratio 1 4) trail_a 0 3 d 20 h dist_1_6 (omega arith)
none_stretch_a zero (suc (suc (suc (suc j)))) d h = omega (arith, h.inside)
none_stretch_a (suc zero) zero d h = omega (arith, h.rise)
none_stretch_a (suc zero) (suc zero) d h = omega (arith, h.rise)
none_stretch_a (suc zero) (suc (suc zero)) d h = allowed graph_a (ratio 1 4) trail_a 1 2 d 6 h dist_3_4 (omega arith)
none_stretch_a (suc zero) (suc (suc (suc zero))) d h = allowed graph_a (ratio 1 4) trail_a 1 3 d 11 h dist_3_6 (omega arith)
none_stretch_a (suc zero) (suc (suc (suc (suc j)))) d h = omega (arith, h.inside)
none_stretch_a (suc (suc zero)) zero d h = omega (arith, h.rise)
none_stretch_a (suc (suc zero)) (suc zero) d h = omega (arith, h.rise)
none_stretch_a (suc (suc zero)) (suc (suc zero)) d h = omega (arith, h.rise)
none_stretch_a (suc (suc zero)) (suc (suc (suc zero))) d h = allowed graph_a (ratio 1 4) trail_a 2 3 d 5 h dist_4_6 (omega arith)
none_stretch_a (suc (suc zero)) (suc (suc (suc (suc j)))) d h = omega (arith, h.inside)
none_stretch_a (suc (suc (suc i))) j d h = omega (arith, h.rise, h.inside)

-- T is 5, and the whole without its ends is 6 long
untested_a : IsTested (ratio 1 4) 20 trail_a 0 3 → ⊥
untested_a (inl h) = omega arith
untested_a (inr h) = omega (arith, h.1)

pub untested_on_bound : IsTested (ratio 3 10) 20 trail_a 0 3 → ⊥
untested_on_bound (inl h) = omega arith
untested_on_bound (inr h) = omega (arith, h.1)

pub admissible_a : IsAdmissible graph_a (usual 1 6) (1 ∷ 2 ∷ []) (3 ∷ 4 ∷ 5 ∷ [])
admissible_a = record { limited = omega arith; optimal = none_local_a (ratio 1 4) untested_a; bounded = none_stretch_a }

pub least_below_bound : IsLeastFailure (FailsLocal graph_a (ratio 13 40) 20 trail_a) 0 3 20
least_below_bound = record {
  fails = record { rise = omega arith; inside = omega arith; tested = inr (omega arith, omega arith); dist = dist_1_6; other = (λ (e : 22 ≡ 20). omega arith) };
  first = (λ a b c h. omega arith);
  last = (λ b c h. omega (arith, (local_a (ratio 13 40) 0 b c h).1));
}

not_via : (prefix back : List ℕ) → 3 ∷ 4 ∷ 5 ∷ [] ≡ prefix ++ back → IsShortest graph_a 1 prefix 2 → ⊥
not_via [] back e h = let same : 1 ≡ 2 = h.walk in omega arith
not_via (a ∷ x) back e h =
    let first : 3 ≡ a = cc in
    let long : length_at graph_a a ≡ 11 = ap (λ (n : ℕ). length_at graph_a n) (sym first) in
    let short : walk_length graph_a (a ∷ x) ≤ 10 = h.least (1 ∷ []) (arc 1 2 10, refl, refl, refl) in
    omega arith

pub not_via_2 : IsVia graph_a 1 6 2 (3 ∷ 4 ∷ 5 ∷ []) → ⊥
not_via_2 h = not_via h.prefix h.back h.joined h.first.shortest

-- graph B
abbrev trail_b : Trail
trail_b = trail_of graph_b 1 (3 ∷ 4 ∷ [])

abbrev from_1_b : List ℕ
from_1_b = 0 ∷ 0 ∷ 10 ∷ 11 ∷ 100 ∷ 100 ∷ 20 ∷ []

dist_b_1_3 : IsDist graph_b 1 3 (Some 11)
dist_b_1_3 = dist_by from_1_b graph_b 1 3 (3 ∷ []) refl (arc 1 3 11, refl, refl, refl) refl refl

dist_b_1_6 : IsDist graph_b 1 6 (Some 20)
dist_b_1_6 = dist_by from_1_b graph_b 1 6 (1 ∷ 2 ∷ []) refl (arc 1 2 10, refl, refl, (arc 2 6 10, refl, refl, refl)) refl refl

pub fails_b : FailsLocal graph_b (ratio 1 4) 20 trail_b 0 2 20
fails_b = record { rise = omega arith; inside = omega arith; tested = inr (omega arith, omega arith); dist = dist_b_1_6; other = (λ (e : 22 ≡ 20). omega arith) }

last_b : (b c : ℕ) → FailsLocal graph_b (ratio 1 4) 20 trail_b 0 b c → 2 ≤ b
last_b zero c h = absurd (omega (arith, h.rise))
last_b (suc zero) c h = absurd (exact graph_b (ratio 1 4) 20 trail_b 0 1 c 11 h dist_b_1_3 refl)
last_b (suc (suc b)) c h = omega arith

pub least_b : IsLeastFailure (FailsLocal graph_b (ratio 1 4) 20 trail_b) 0 2 20
least_b = record { fails = fails_b; first = (λ a b c h. omega arith); last = last_b }

pub refused_b : IsAdmissible graph_b (usual 1 6) (1 ∷ 2 ∷ []) (3 ∷ 4 ∷ []) → ⊥
refused_b h = h.optimal 0 2 20 fails_b

-- graph S
abbrev trail_s : Trail
trail_s = trail_of graph_s 1 (1 ∷ 3 ∷ 4 ∷ 2 ∷ [])

abbrev from_1_s : List ℕ
from_1_s = 0 ∷ 0 ∷ 1 ∷ 2 ∷ 2 ∷ []

dist_s_1_2 : IsDist graph_s 1 2 (Some 1)
dist_s_1_2 = dist_by from_1_s graph_s 1 2 (1 ∷ []) refl (arc 1 2 1, refl, refl, refl) refl refl

dist_s_1_4 : IsDist graph_s 1 4 (Some 2)
dist_s_1_4 = dist_by from_1_s graph_s 1 4 (1 ∷ 3 ∷ []) refl (arc 1 2 1, refl, refl, (arc 2 4 1, refl, refl, refl)) refl refl

dist_s_2_2 : IsDist graph_s 2 2 (Some 0)
dist_s_2_2 = (record { path = []; walk = refl; long = refl }, (λ q w. omega arith))

last_s : (b c : ℕ) → FailsStretch graph_s (ratio 1 1) trail_s 0 b c → 3 ≤ b
last_s zero c h = absurd (omega (arith, h.rise))
last_s (suc zero) c h = absurd (allowed graph_s (ratio 1 1) trail_s 0 1 c 1 h dist_s_1_2 (omega arith))
last_s (suc (suc zero)) c h = absurd (allowed graph_s (ratio 1 1) trail_s 0 2 c 2 h dist_s_1_4 (omega arith))
last_s (suc (suc (suc b))) c h = omega arith

pub least_s : IsLeastFailure (FailsStretch graph_s (ratio 1 1) trail_s) 0 3 1
least_s = record {
  fails = record { rise = omega arith; inside = omega arith; dist = dist_s_1_2; above = omega arith };
  first = (λ a b c h. omega arith);
  last = last_s;
}

pub closed_s : FailsStretch graph_s (ratio 1 1) trail_s 1 3 0
closed_s = record { rise = omega arith; inside = omega arith; dist = dist_s_2_2; above = omega arith }

-- no arc leads out of vertex 6, nor into vertex 5
pub no_walk_6_1 : (p : List ℕ) → IsWalk graph_a 6 p 1 → ⊥
no_walk_6_1 = none_by (0 ∷ 1 ∷ 1 ∷ 1 ∷ 1 ∷ 1 ∷ 0 ∷ []) graph_a 6 1 refl (omega arith)

pub no_walk_1_5 : (p : List ℕ) → IsWalk graph_a 1 p 5 → ⊥
no_walk_1_5 = none_by (0 ∷ 0 ∷ 0 ∷ 0 ∷ 0 ∷ 1 ∷ 0 ∷ []) graph_a 1 5 refl (omega arith)

pub no_via_5 : HasNoVia graph_a 1 6 5
no_via_5 p q h k = no_walk_1_5 p h

-- arc 3 ends at vertex 3, and arc 5 begins at vertex 4
pub no_walk_35 : IsWalk graph_a 1 (3 ∷ 5 ∷ []) 6 → ⊥
no_walk_35 w =
    let one : Some (arc 1 3 11) ≡ Some w.0 = w.1 in
    let two : Some (arc 4 6 5) ≡ Some w.3.0 = w.3.1 in
    let first : arc 1 3 11 ≡ w.0 = cc in
    let second : arc 4 6 5 ≡ w.3.0 = cc in
    let head : 3 ≡ w.0.head = ap (λ (r : ArcRow). r.head) first in
    let tail : 4 ≡ w.3.0.tail = ap (λ (r : ArcRow). r.tail) second in
    let join : w.3.0.tail ≡ w.0.head = w.3.2 in
    omega arith

differ : (a b : ℕ) → a + 2 ≡ b → a ≡ b → ⊥
differ a b apart e = omega arith

pub not_22 : IsDist graph_a 1 6 (Some 22) → ⊥
not_22 h = differ 20 22 refl (IsDist-same graph_a 1 6 20 22 dist_1_6 h)
