-- What via lines that passed their checks tell of the paths through vertices.
--   HasReason o routes xs v   a line of the vertex, whose reason was checked
use Rattle.std.proofs.Common.{◌≡◌, ℕ, ◌+◌, ◌*◌, ◌<◌, ◌≤◌, ◌⊎◌, zero, suc, List, [], ◌∷◌, Some, None, refl, sym, subst, map, arith, ⊎_elim}
use Rattle.std.specs.List.{Contains}
use Rattle.std.proofs.Math.Nat.{mul-le-mul_left}
use Rattle.std.proofs.lemmas.Bool.{cases_lt, cases_order}
use Rattle.road_model.specs.declared.answer.Query.{Query}
use Rattle.road_model.specs.declared.answer.Verdict.{Verdict}
use Rattle.road_model.specs.declared.answer.Verdict.TheVariants as verdict
use Rattle.road_model.specs.Graph.{Graph, IsVertex}
use Rattle.road_model.specs.Walk.{IsWalk, walk_length}
use Rattle.road_model.specs.Dist.{IsDist}
use Rattle.road_model.specs.Fraction.{Fraction, IsAbove, Allows, Stretches, Exceeds}
use Rattle.road_model.specs.Places.{trail_of, between}
use Rattle.road_model.specs.Tests.{shared, IsTested, FailsLocal, FailsStretch, NoneFails}
use Rattle.road_model.specs.Alternatives.{IsVia, IsAlternative}
use Rattle.road_model.specs.Answers.{HasRoute}
use Rattle.road_model.specs.Verdicts.{IsVerdict}
use Rattle.road_model.proofs.CanonicalWalks.{IsVia-unique}
use Rattle.road_model.proofs.Parts.{length-places}
use Rattle.canonical_trees.proofs.ThroughVertex.{via_walk}
use Rattle.certificate_text.specs.declared.certificate.CertRoute.{CertRoute}
use Rattle.certificate_text.specs.declared.certificate.Reason.{Reason}
use Rattle.certificate_text.specs.declared.certificate.Reason.TheVariants as reason
use Rattle.certificate_text.specs.declared.certificate.ViaRow.{ViaRow}
use Rattle.recheck.specs.Paths.{Ground, IsNear, trail}
use Rattle.recheck.specs.Reasons.{IsOverShared, IsShorter, IsOverStretched, Shows, IsReason}
use Rattle.recheck.specs.Checks.{FindsFirst, vias_checks}
use Rattle.recheck.specs.Truth.{route_in, HasVia, IsFar, OthersAreFar, Refutes, TellsShared, Tells, IsTrueReason}
use Rattle.recheck.proofs.RowLookups.{contains_first, contains_later, contains_cases, none_contained}
use Rattle.recheck.proofs.NearPaths.{IsGrounded, via_of_through, near_of_via, short_of_admissible}

-- where a walk leads, there is a distance, as far as a contradiction needs one

none_shorter_than : (n : ℕ) (g : Graph) (u v : ℕ) (p : List ℕ) → ((d : ℕ) → IsDist g u v (Some d) → ⊥) → IsWalk g u p v → walk_length g p < n → ⊥
none_shorter_than zero g u v p none walk lt = omega arith
none_shorter_than (suc n) g u v p none walk lt =
    none (walk_length g p) (
      record { path = p; walk = walk; long = refl },
      (λ q other. ⊎_elim
          (λ (less : walk_length g q < walk_length g p). absurd (none_shorter_than n g u v q none other (omega arith)))
          (λ (ge : walk_length g p ≤ walk_length g q). ge)
          (cases_lt (walk_length g q) (walk_length g p))),
    )

pub has_dist : (g : Graph) (u v : ℕ) (p : List ℕ) → IsWalk g u p v → ((d : ℕ) → IsDist g u v (Some d) → ⊥) → ⊥
has_dist g u v p walk none = none_shorter_than (suc (walk_length g p)) g u v p none walk (omega arith)

-- a pair that a detour refutes fails
refuted : (g : Graph) (q : Query) (p : List ℕ) (F : ℕ → ℕ → ℕ → Type 0) (first last : ℕ) (detour : List ℕ) → Refutes g q p F first last detour → NoneFails F → ⊥
refuted g q p F first last detour h none =
    has_dist g _ _ detour h.walk (λ d dist. none first last d (h.fails d dist))

-- what each reason tells

tells_shared : (o : Ground) (p : List ℕ) (sum : ℕ) → IsGrounded o → IsOverShared o p sum → TellsShared o.graph o.query o.optimum p sum
tells_shared o p sum b h =
    record { is_sum = h.is_sum; over = subst (λ (n : ℕ). IsAbove o.query.gamma sum n) b.best h.over }

tells_local : (o : Ground) (p : List ℕ) (first last : ℕ) (detour : List ℕ) → IsGrounded o → IsShorter o p first last detour → Refutes o.graph o.query p (FailsLocal o.graph o.query.alpha (walk_length o.graph o.optimum) (trail o p)) first last detour
tells_local o p first last detour b h =
    record {
      walk = h.leads.walk;
      fails = (λ d dist. record {
        rise = h.leads.rise;
        inside = omega (arith, h.leads.inside, length-places o.graph o.query.from p);
        tested = subst (λ (n : ℕ). IsTested o.query.alpha n (trail o p) first last) b.best h.tested;
        dist = dist;
        other = (λ (same : between (trail o p) first last ≡ d).
            let low : d ≤ walk_length o.graph detour = dist.1 detour h.leads.walk in
            omega (arith, h.shorter));
      });
    }

exceeds_less : (f : Fraction) (part m n : ℕ) → m ≤ n → Exceeds f part n → Exceeds f part m
exceeds_less f part m n le h =
    let scaled : (f.den + f.num) * m ≤ (f.den + f.num) * n = mul-le-mul_left (f.den + f.num) le in
    omega arith

tells_stretch : (o : Ground) (p : List ℕ) (first last : ℕ) (detour : List ℕ) → IsOverStretched o p first last detour → Refutes o.graph o.query p (FailsStretch o.graph o.query.epsilon (trail o p)) first last detour
tells_stretch o p first last detour h =
    record {
      walk = h.leads.walk;
      fails = (λ d dist. record {
        rise = h.leads.rise;
        inside = omega (arith, h.leads.inside, length-places o.graph o.query.from p);
        dist = dist;
        above = exceeds_less o.query.epsilon (between (trail o p) first last) d (walk_length o.graph detour) (dist.1 detour h.leads.walk) h.above;
      });
    }

tells_of : (o : Ground) (routes : List CertRoute) (p : List ℕ) (r : Reason) → IsGrounded o → Shows o routes p r → Tells o.graph o.query o.optimum routes p r
tells_of o routes p reason.Optimum b h = h
tells_of o routes p (reason.Shared sum) b h = tells_shared o p sum b h
tells_of o routes p (reason.Local first last detour) b h = tells_local o p first last detour b h
tells_of o routes p (reason.Stretch first last detour) b h = tells_stretch o p first last detour h
tells_of o routes p (reason.Listed name) b h = record { route = h.route; listed = h.listed; named = h.named; same = h.same }

pub true_reason : (o : Ground) (routes : List CertRoute) (x : ViaRow) → IsGrounded o → IsReason o routes x → IsTrueReason o.graph o.query o.optimum routes x
true_reason o routes x b h =
    record { path = h.path; through = via_of_through o x.vertex h.path b h.through; tells = tells_of o routes h.path x.reason b h.shows }

-- each line's reason was checked, and each near vertex above the one before has a line

pub reasons_stand : (o : Ground) (routes : List CertRoute) (line before : ℕ) (xs : List ViaRow) → FindsFirst (vias_checks o routes line before xs) None → (x : ViaRow) → Contains xs x → IsReason o routes x
reasons_stand o routes line before [] h x there = none_contained x there
reasons_stand o routes line before (y ∷ xs) h x there =
    ⊎_elim
    (λ (first : y ≡ x). subst (λ (z : ViaRow). IsReason o routes z) first h.1.0)
    (λ (later : Contains xs x). reasons_stand o routes (line + 1) y.vertex xs h.1.1 x later)
    (contains_cases y x xs there)

via_later : (y : ViaRow) (xs : List ViaRow) (v : ℕ) → HasVia xs v → HasVia (y ∷ xs) v
via_later y xs v h = record { line = h.line; listed = contains_later y h.line xs h.listed; vertex = h.vertex }

via_above : (o : Ground) (routes : List CertRoute) (line before : ℕ) (xs : List ViaRow) → FindsFirst (vias_checks o routes line before xs) None → (v : ℕ) → IsNear o v → before < v → HasVia xs v
via_above o routes line before [] h v near above = absurd (let most : v ≤ before = h.0 v near in omega arith)
via_above o routes line before (y ∷ xs) h v near above =
    let low : y.vertex ≤ v = h.0.least v near above in
    ⊎_elim
    (λ (same : y.vertex ≡ v).
    let found : HasVia (y ∷ xs) v = record { line = y; listed = contains_first y xs; vertex = same } in
    found)
    (λ (other : (y.vertex < v) ⊎ (v < y.vertex)).
    ⊎_elim
    (λ (less : y.vertex < v). via_later y xs v (via_above o routes (line + 1) y.vertex xs h.1.1 v near less))
    (λ (more : v < y.vertex). absurd (omega arith))
    other)
    (cases_order y.vertex v)

pub has_via : (o : Ground) (routes : List CertRoute) (line : ℕ) (xs : List ViaRow) (v : ℕ) → IsGrounded o → FindsFirst (vias_checks o routes line 0 xs) None → IsNear o v → HasVia xs v
has_via o routes line xs v b h near =
    let inside : IsVertex o.graph.vertices v = b.to.vertex v near.far near.is_far in
    via_above o routes line 0 xs h v near inside.first

-- so a vertex without a line is far

near_as : (o : Ground) (v : ℕ) (p : List ℕ) → IsGrounded o → IsVia o.graph o.query.from o.query.to v p → Stretches o.query.epsilon (walk_length o.graph p) (walk_length o.graph o.optimum) → IsNear o v
near_as o v p b via short =
    near_of_via o v p b via (subst (λ (n : ℕ). Stretches o.query.epsilon (walk_length o.graph p) n) (sym b.best) short)

stretches_itself : (f : Fraction) (l : ℕ) → Stretches f l l
stretches_itself f l = omega arith

far_of : (o : Ground) (v : ℕ) (w : Verdict) → IsGrounded o → (IsNear o v → ⊥) → IsVerdict o.graph o.query o.optimum v w → IsFar w
far_of o v verdict.Unreached b far h = tt
far_of o v verdict.Optimum b far h = absurd (far (near_as o v o.optimum b h (stretches_itself o.query.epsilon (walk_length o.graph o.optimum))))
far_of o v (verdict.Long l) b far h = tt
far_of o v (verdict.Shared sum) b far h = absurd (far (near_as o v h.path b h.is.through h.short))
far_of o v (verdict.Local pair) b far h = absurd (far (near_as o v h.path b h.is.through h.short))
far_of o v (verdict.Stretch pair) b far h = absurd (far (near_as o v h.path b h.is.through h.short))
far_of o v (verdict.Listed name) b far h = absurd (far (near_as o v h.path b h.is.through h.short))

pub others_are_far : (o : Ground) (routes : List CertRoute) (line : ℕ) (xs : List ViaRow) → IsGrounded o → FindsFirst (vias_checks o routes line 0 xs) None → OthersAreFar o.graph o.query o.optimum xs
others_are_far o routes line xs b h v none w is =
    far_of o v w b (λ (near : IsNear o v). none (has_via o routes line xs v b h near)) is

-- and the reason of an alternative's vertex can only be that it is listed

contains_route : (rs : List CertRoute) (r : CertRoute) → Contains rs r → Contains (map route_in rs) (route_in r)
contains_route [] r there = none_contained r there
contains_route (x ∷ rs) r there =
    ⊎_elim
    (λ (first : x ≡ r). subst (λ (y : CertRoute). Contains (map route_in (x ∷ rs)) (route_in y)) first (contains_first (route_in x) (map route_in rs)))
    (λ (later : Contains rs r). contains_later (route_in x) (route_in r) (map route_in rs) (contains_route rs r later))
    (contains_cases x r rs there)

listed_by : (g : Graph) (q : Query) (optimum p : List ℕ) (routes : List CertRoute) (r : Reason) → IsAlternative g q optimum p → Tells g q optimum routes p r → HasRoute (map route_in routes) p
listed_by g q optimum p routes reason.Optimum a h = absurd (a.other h)
listed_by g q optimum p routes (reason.Shared sum) a h =
    let limited : Allows q.gamma (shared g optimum p) (walk_length g optimum) = a.admissible.limited in
    let over : IsAbove q.gamma (shared g optimum p) (walk_length g optimum) = subst (λ (n : ℕ). IsAbove q.gamma n (walk_length g optimum)) h.is_sum h.over in
    absurd (omega arith)
listed_by g q optimum p routes (reason.Local first last detour) a h =
    absurd (refuted g q p (FailsLocal g q.alpha (walk_length g optimum) (trail_of g q.from p)) first last detour h a.admissible.optimal)
listed_by g q optimum p routes (reason.Stretch first last detour) a h =
    absurd (refuted g q p (FailsStretch g q.epsilon (trail_of g q.from p)) first last detour h a.admissible.bounded)
listed_by g q optimum p routes (reason.Listed name) a h =
    record { route = route_in h.route; listed = contains_route routes h.route h.listed; path = h.same }

pub alternative_listed : (o : Ground) (routes : List CertRoute) (line : ℕ) (xs : List ViaRow) (p : List ℕ) → IsGrounded o → FindsFirst (vias_checks o routes line 0 xs) None → IsAlternative o.graph o.query o.optimum p → HasRoute (map route_in routes) p
alternative_listed o routes line xs p b h a =
    let short : Stretches o.query.epsilon (walk_length o.graph p) (walk_length o.graph o.optimum) = short_of_admissible o.graph o.query o.optimum p b.optimum (via_walk o.graph o.query.from o.query.to a.via p a.through) a.admissible in
    let found : HasVia xs a.via = has_via o routes line xs a.via b h (near_as o a.via p b a.through short) in
    let told : IsTrueReason o.graph o.query o.optimum routes found.line = true_reason o routes found.line b (reasons_stand o routes line 0 xs h found.line found.listed) in
    let through : IsVia o.graph o.query.from o.query.to a.via told.path = subst (λ (v : ℕ). IsVia o.graph o.query.from o.query.to v told.path) found.vertex told.through in
    let same : told.path ≡ p = IsVia-unique o.graph o.query.from o.query.to a.via told.path p through a.through in
    listed_by o.graph o.query o.optimum p routes found.line.reason a (subst (λ (l : List ℕ). Tells o.graph o.query o.optimum routes l found.line.reason) same told.tells)
