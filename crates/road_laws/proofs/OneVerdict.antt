-- A vertex has one verdict: any two kinds contradict each other, and each kind has one value.
use Rattle.std.proofs.Common.{◌≡◌, ℕ, List, Option, Some, None, refl, sym, ap, ◌∙◌, subst, arith}
use Rattle.road_model.specs.declared.answer.Pair.{Pair}
use Rattle.road_model.specs.declared.answer.Query.{Query}
use Rattle.road_model.specs.declared.answer.Verdict.{Verdict}
use Rattle.road_model.specs.declared.answer.Verdict.TheVariants as the
use Rattle.road_model.specs.declared.trail.Trail.{Trail}
use Rattle.road_model.specs.Graph.{Graph}
use Rattle.road_model.specs.Walk.{walk_length}
use Rattle.road_model.specs.Fraction.{Fraction, Allows, IsAbove, Stretches, Exceeds}
use Rattle.road_model.specs.Places.{trail_of}
use Rattle.road_model.specs.Tests.{shared, FailsLocal, FailsStretch, NoneFails, IsLeastFailure}
use Rattle.road_model.specs.Alternatives.{IsVia, IsName}
use Rattle.road_model.specs.Verdicts.{IsOther, IsLong, IsOverShared, IsVerdict, IsVerdictOf}
use Rattle.road_model.proofs.Dists.{IsDist-same}
use Rattle.road_model.proofs.CanonicalWalks.{IsFirst-unique, IsVia-unique}
use Rattle.road_laws.proofs.Vias.{no_via, IsName-unique}

pub record SamePlaces (i j d a b c : ℕ) : Type 0 where
  pub first : i ≡ a
  pub last : j ≡ b
  pub distance : d ≡ c

same_first : (F : ℕ → ℕ → ℕ → Type 0) (i j d a b c : ℕ) → IsLeastFailure F i j d → IsLeastFailure F a b c → i ≡ a
same_first F i j d a b c h k = omega (arith, h.first a b c k.fails, k.first i j d h.fails)

same_last : (F : ℕ → ℕ → ℕ → Type 0) (i j d a b c : ℕ) → i ≡ a → IsLeastFailure F i j d → IsLeastFailure F a b c → j ≡ b
same_last F i j d a b c e h k =
    omega (arith, h.last b c (subst (λ (n : ℕ). F n b c) (sym e) k.fails), k.last j d (subst (λ (n : ℕ). F n j d) e h.fails))

pub least_local : (g : Graph) (alpha : Fraction) (l : ℕ) (t : Trail) (i j d a b c : ℕ) → IsLeastFailure (FailsLocal g alpha l t) i j d → IsLeastFailure (FailsLocal g alpha l t) a b c → SamePlaces i j d a b c
least_local g alpha l t i j d a b c h k =
    let F : ℕ → ℕ → ℕ → Type 0 = FailsLocal g alpha l t in
    let first : i ≡ a = same_first F i j d a b c h k in
    let last : j ≡ b = same_last F i j d a b c first h k in
    let there : FailsLocal g alpha l t i j c = subst (λ (n : ℕ). FailsLocal g alpha l t n j c) (sym first) (subst (λ (n : ℕ). FailsLocal g alpha l t a n c) (sym last) k.fails) in
    record { first = first; last = last; distance = IsDist-same g _ _ d c h.fails.dist there.dist }

pub least_stretch : (g : Graph) (epsilon : Fraction) (t : Trail) (i j d a b c : ℕ) → IsLeastFailure (FailsStretch g epsilon t) i j d → IsLeastFailure (FailsStretch g epsilon t) a b c → SamePlaces i j d a b c
least_stretch g epsilon t i j d a b c h k =
    let F : ℕ → ℕ → ℕ → Type 0 = FailsStretch g epsilon t in
    let first : i ≡ a = same_first F i j d a b c h k in
    let last : j ≡ b = same_last F i j d a b c first h k in
    let there : FailsStretch g epsilon t i j c = subst (λ (n : ℕ). FailsStretch g epsilon t n j c) (sym first) (subst (λ (n : ℕ). FailsStretch g epsilon t a n c) (sym last) k.fails) in
    record { first = first; last = last; distance = IsDist-same g _ _ d c h.fails.dist there.dist }

same_pair : (a b : Pair) → SamePlaces a.first a.last a.distance b.first b.last b.distance → a ≡ b
same_pair a b h =
    let e1 : a.first ≡ b.first = h.first in
    let e2 : a.last ≡ b.last = h.last in
    let e3 : a.distance ≡ b.distance = h.distance in
    rw (e1, e2, e3) refl

same_path : (g : Graph) (q : Query) (o : List ℕ) (v : ℕ) (p r : List ℕ) → IsOther g q o v p → IsOther g q o v r → p ≡ r
same_path g q o v p r h k = IsVia-unique g q.from q.to v p r h.through k.through

-- a path that is the optimum, and isn't
not_other : {P : Type 0} (g : Graph) (q : Query) (o : List ℕ) (v : ℕ) (p : List ℕ) → IsVia g q.from q.to v o → IsOther g q o v p → P
not_other g q o v p h k = absurd (k.other (IsVia-unique g q.from q.to v p o k.through h))

long_and_short : {P : Type 0} (g : Graph) (f : Fraction) (l : ℕ) (p r : List ℕ) → p ≡ r → Exceeds f (walk_length g p) l → Stretches f (walk_length g r) l → P
long_and_short g f l p r e h k =
    let s : Stretches f (walk_length g p) l = subst (λ (x : List ℕ). Stretches f (walk_length g x) l) (sym e) k in
    absurd (omega arith)

over_and_limited : {P : Type 0} (g : Graph) (f : Fraction) (l : ℕ) (o p r : List ℕ) → p ≡ r → IsAbove f (shared g o p) l → Allows f (shared g o r) l → P
over_and_limited g f l o p r e h k =
    let s : Allows f (shared g o p) l = subst (λ (x : List ℕ). Allows f (shared g o x) l) (sym e) k in
    absurd (omega arith)

not_local_and_optimal : {P : Type 0} (g : Graph) (q : Query) (o p r : List ℕ) (i j d : ℕ) → p ≡ r → IsLeastFailure (FailsLocal g q.alpha (walk_length g o) (trail_of g q.from p)) i j d → NoneFails (FailsLocal g q.alpha (walk_length g o) (trail_of g q.from r)) → P
not_local_and_optimal g q o p r i j d e h k =
    absurd (k i j d (subst (λ (x : List ℕ). FailsLocal g q.alpha (walk_length g o) (trail_of g q.from x) i j d) e h.fails))

stretched_and_bounded : {P : Type 0} (g : Graph) (q : Query) (p r : List ℕ) (i j d : ℕ) → p ≡ r → IsLeastFailure (FailsStretch g q.epsilon (trail_of g q.from p)) i j d → NoneFails (FailsStretch g q.epsilon (trail_of g q.from r)) → P
stretched_and_bounded g q p r i j d e h k =
    absurd (k i j d (subst (λ (x : List ℕ). FailsStretch g q.epsilon (trail_of g q.from x) i j d) e h.fails))

exceeds_of : (g : Graph) (q : Query) (o : List ℕ) (v l : ℕ) (h : IsLong g q o v l) → Exceeds q.epsilon (walk_length g h.path) (walk_length g o)
exceeds_of g q o v l h = subst (λ (n : ℕ). Exceeds q.epsilon n (walk_length g o)) h.is_length h.long

above_of : (g : Graph) (q : Query) (o : List ℕ) (v n : ℕ) (h : IsOverShared g q o v n) → IsAbove q.gamma (shared g o h.path) (walk_length g o)
above_of g q o v n h = subst (λ (m : ℕ). IsAbove q.gamma m (walk_length g o)) h.is_sum h.over

pub verdict_of_one : (g : Graph) (q : Query) (o : List ℕ) (v : ℕ) (a b : Verdict) → IsVerdict g q o v a → IsVerdict g q o v b → a ≡ b
verdict_of_one g q o v the.Unreached the.Unreached h k =
    refl
verdict_of_one g q o v the.Unreached the.Optimum h k =
    no_via g q.from q.to v o h k
verdict_of_one g q o v the.Unreached (the.Long m) h k =
    no_via g q.from q.to v k.path h k.is.through
verdict_of_one g q o v the.Unreached (the.Shared m) h k =
    no_via g q.from q.to v k.path h k.is.through
verdict_of_one g q o v the.Unreached (the.Local twin) h k =
    no_via g q.from q.to v k.path h k.is.through
verdict_of_one g q o v the.Unreached (the.Stretch twin) h k =
    no_via g q.from q.to v k.path h k.is.through
verdict_of_one g q o v the.Unreached (the.Listed x) h k =
    no_via g q.from q.to v k.path h k.is.through
verdict_of_one g q o v the.Optimum the.Unreached h k =
    no_via g q.from q.to v o k h
verdict_of_one g q o v the.Optimum the.Optimum h k =
    refl
verdict_of_one g q o v the.Optimum (the.Long m) h k =
    not_other g q o v k.path h k.is
verdict_of_one g q o v the.Optimum (the.Shared m) h k =
    not_other g q o v k.path h k.is
verdict_of_one g q o v the.Optimum (the.Local twin) h k =
    not_other g q o v k.path h k.is
verdict_of_one g q o v the.Optimum (the.Stretch twin) h k =
    not_other g q o v k.path h k.is
verdict_of_one g q o v the.Optimum (the.Listed x) h k =
    not_other g q o v k.path h k.is
verdict_of_one g q o v (the.Long l) the.Unreached h k =
    no_via g q.from q.to v h.path k h.is.through
verdict_of_one g q o v (the.Long l) the.Optimum h k =
    not_other g q o v h.path k h.is
verdict_of_one g q o v (the.Long l) (the.Long m) h k =
    ap (λ (x : ℕ). the.Long x) (h.is_length ∙ (ap (λ (x : List ℕ). walk_length g x) (same_path g q o v h.path k.path h.is k.is) ∙ sym k.is_length))
verdict_of_one g q o v (the.Long l) (the.Shared m) h k =
    long_and_short g q.epsilon (walk_length g o) h.path k.path (same_path g q o v h.path k.path h.is k.is) (exceeds_of g q o v l h) k.short
verdict_of_one g q o v (the.Long l) (the.Local twin) h k =
    long_and_short g q.epsilon (walk_length g o) h.path k.path (same_path g q o v h.path k.path h.is k.is) (exceeds_of g q o v l h) k.short
verdict_of_one g q o v (the.Long l) (the.Stretch twin) h k =
    long_and_short g q.epsilon (walk_length g o) h.path k.path (same_path g q o v h.path k.path h.is k.is) (exceeds_of g q o v l h) k.short
verdict_of_one g q o v (the.Long l) (the.Listed x) h k =
    long_and_short g q.epsilon (walk_length g o) h.path k.path (same_path g q o v h.path k.path h.is k.is) (exceeds_of g q o v l h) k.short
verdict_of_one g q o v (the.Shared n) the.Unreached h k =
    no_via g q.from q.to v h.path k h.is.through
verdict_of_one g q o v (the.Shared n) the.Optimum h k =
    not_other g q o v h.path k h.is
verdict_of_one g q o v (the.Shared n) (the.Long m) h k =
    long_and_short g q.epsilon (walk_length g o) k.path h.path (same_path g q o v k.path h.path k.is h.is) (exceeds_of g q o v m k) h.short
verdict_of_one g q o v (the.Shared n) (the.Shared m) h k =
    ap (λ (x : ℕ). the.Shared x) (h.is_sum ∙ (ap (λ (x : List ℕ). shared g o x) (same_path g q o v h.path k.path h.is k.is) ∙ sym k.is_sum))
verdict_of_one g q o v (the.Shared n) (the.Local twin) h k =
    over_and_limited g q.gamma (walk_length g o) o h.path k.path (same_path g q o v h.path k.path h.is k.is) (above_of g q o v n h) k.limited
verdict_of_one g q o v (the.Shared n) (the.Stretch twin) h k =
    over_and_limited g q.gamma (walk_length g o) o h.path k.path (same_path g q o v h.path k.path h.is k.is) (above_of g q o v n h) k.limited
verdict_of_one g q o v (the.Shared n) (the.Listed x) h k =
    over_and_limited g q.gamma (walk_length g o) o h.path k.path (same_path g q o v h.path k.path h.is k.is) (above_of g q o v n h) k.limited
verdict_of_one g q o v (the.Local pair) the.Unreached h k =
    no_via g q.from q.to v h.path k h.is.through
verdict_of_one g q o v (the.Local pair) the.Optimum h k =
    not_other g q o v h.path k h.is
verdict_of_one g q o v (the.Local pair) (the.Long m) h k =
    long_and_short g q.epsilon (walk_length g o) k.path h.path (same_path g q o v k.path h.path k.is h.is) (exceeds_of g q o v m k) h.short
verdict_of_one g q o v (the.Local pair) (the.Shared m) h k =
    over_and_limited g q.gamma (walk_length g o) o k.path h.path (same_path g q o v k.path h.path k.is h.is) (above_of g q o v m k) h.limited
verdict_of_one g q o v (the.Local pair) (the.Local twin) h k =
    ap (λ (x : Pair). the.Local x) (same_pair pair twin (least_local g q.alpha (walk_length g o) (trail_of g q.from h.path) pair.first pair.last pair.distance twin.first twin.last twin.distance h.fails (subst (λ (x : List ℕ). IsLeastFailure (FailsLocal g q.alpha (walk_length g o) (trail_of g q.from x)) twin.first twin.last twin.distance) (sym (same_path g q o v h.path k.path h.is k.is)) k.fails)))
verdict_of_one g q o v (the.Local pair) (the.Stretch twin) h k =
    not_local_and_optimal g q o h.path k.path pair.first pair.last pair.distance (same_path g q o v h.path k.path h.is k.is) h.fails k.optimal
verdict_of_one g q o v (the.Local pair) (the.Listed x) h k =
    not_local_and_optimal g q o h.path k.path pair.first pair.last pair.distance (same_path g q o v h.path k.path h.is k.is) h.fails k.optimal
verdict_of_one g q o v (the.Stretch pair) the.Unreached h k =
    no_via g q.from q.to v h.path k h.is.through
verdict_of_one g q o v (the.Stretch pair) the.Optimum h k =
    not_other g q o v h.path k h.is
verdict_of_one g q o v (the.Stretch pair) (the.Long m) h k =
    long_and_short g q.epsilon (walk_length g o) k.path h.path (same_path g q o v k.path h.path k.is h.is) (exceeds_of g q o v m k) h.short
verdict_of_one g q o v (the.Stretch pair) (the.Shared m) h k =
    over_and_limited g q.gamma (walk_length g o) o k.path h.path (same_path g q o v k.path h.path k.is h.is) (above_of g q o v m k) h.limited
verdict_of_one g q o v (the.Stretch pair) (the.Local twin) h k =
    not_local_and_optimal g q o k.path h.path twin.first twin.last twin.distance (same_path g q o v k.path h.path k.is h.is) k.fails h.optimal
verdict_of_one g q o v (the.Stretch pair) (the.Stretch twin) h k =
    ap (λ (x : Pair). the.Stretch x) (same_pair pair twin (least_stretch g q.epsilon (trail_of g q.from h.path) pair.first pair.last pair.distance twin.first twin.last twin.distance h.fails (subst (λ (x : List ℕ). IsLeastFailure (FailsStretch g q.epsilon (trail_of g q.from x)) twin.first twin.last twin.distance) (sym (same_path g q o v h.path k.path h.is k.is)) k.fails)))
verdict_of_one g q o v (the.Stretch pair) (the.Listed x) h k =
    stretched_and_bounded g q h.path k.path pair.first pair.last pair.distance (same_path g q o v h.path k.path h.is k.is) h.fails k.bounded
verdict_of_one g q o v (the.Listed w) the.Unreached h k =
    no_via g q.from q.to v h.path k h.is.through
verdict_of_one g q o v (the.Listed w) the.Optimum h k =
    not_other g q o v h.path k h.is
verdict_of_one g q o v (the.Listed w) (the.Long m) h k =
    long_and_short g q.epsilon (walk_length g o) k.path h.path (same_path g q o v k.path h.path k.is h.is) (exceeds_of g q o v m k) h.short
verdict_of_one g q o v (the.Listed w) (the.Shared m) h k =
    over_and_limited g q.gamma (walk_length g o) o k.path h.path (same_path g q o v k.path h.path k.is h.is) (above_of g q o v m k) h.limited
verdict_of_one g q o v (the.Listed w) (the.Local twin) h k =
    not_local_and_optimal g q o k.path h.path twin.first twin.last twin.distance (same_path g q o v k.path h.path k.is h.is) k.fails h.optimal
verdict_of_one g q o v (the.Listed w) (the.Stretch twin) h k =
    stretched_and_bounded g q k.path h.path twin.first twin.last twin.distance (same_path g q o v k.path h.path k.is h.is) k.fails h.bounded
verdict_of_one g q o v (the.Listed w) (the.Listed x) h k =
    ap (λ (n : ℕ). the.Listed n) (IsName-unique g q.from q.to h.path w x h.is_name (subst (λ (y : List ℕ). IsName g q.from q.to y x) (sym (same_path g q o v h.path k.path h.is k.is)) k.is_name))

pub verdict_is_one_lem : (g : Graph) (q : Query) (v : ℕ) (a b : Option Verdict) → IsVerdictOf g q v a → IsVerdictOf g q v b → a ≡ b
verdict_is_one_lem g q v None None h k = refl
verdict_is_one_lem g q v None (Some b) h k = absurd (h k.optimum k.is_optimum.shortest.walk)
verdict_is_one_lem g q v (Some a) None h k = absurd (k h.optimum h.is_optimum.shortest.walk)
verdict_is_one_lem g q v (Some a) (Some b) h k =
    let same : k.optimum ≡ h.optimum = IsFirst-unique g q.from q.to k.optimum h.optimum k.is_optimum h.is_optimum in
    ap (λ (x : Verdict). Some x) (verdict_of_one g q h.optimum v a b h.is_verdict (subst (λ (o : List ℕ). IsVerdict g q o v b) same k.is_verdict))
