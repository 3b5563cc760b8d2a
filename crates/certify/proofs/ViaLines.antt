-- The lines of the near vertices, by rising number.
use Rattle.std.proofs.Common.{◌≡◌, ℕ, ◌+◌, ◌<◌, ◌≤◌, List, [], ◌∷◌, ◌++◌, length, get_or, map, Option, Some, Contains, refl, sym, ap, ◌∙◌, subst, arith, ⊎_elim}
use Rattle.std.specs.List.Sorted.{IsStrictlyIncreasing}
use Rattle.std.proofs.Math.Nat.{mul-le-mul_right}
use Rattle.std.proofs.lemmas.Bool.{cases_lt}
use Rattle.std.proofs.lemmas.List.{get_or-map, get_or_default, length-map, map-append}
use Rattle.std.proofs.lemmas.List.Elements.{Contains-push, Contains-push_cases, Contains-append_left, Contains-get_or}
use Rattle.std.proofs.lemmas.List.Kept.{AllPairs-from_increasing}
use Rattle.road_model.specs.declared.answer.Optimum.{Optimum}
use Rattle.road_model.specs.declared.answer.Query.{Query}
use Rattle.road_model.specs.declared.answer.Verdict.{Verdict}
use Rattle.road_model.specs.declared.answer.Verdict.TheVariants as verdict
use Rattle.road_model.specs.Graph.{Graph, IsGraph, IsVertex}
use Rattle.road_model.specs.Walk.{walk_length}
use Rattle.road_model.specs.Fraction.{Fraction, Stretches}
use Rattle.road_model.specs.Alternatives.{IsVia}
use Rattle.road_model.specs.Verdicts.{IsVerdict}
use Rattle.road_model.proofs.Dists.{dist_of_shortest}
use Rattle.road_model.proofs.CanonicalWalks.{IsVia-unique}
use Rattle.canonical_trees.specs.Trees.{Trees, IsMembersFrom}
use Rattle.canonical_trees.proofs.ThroughVertex.{via_parts}
use Rattle.certificate_text.specs.declared.certificate.Reason.{Reason}
use Rattle.certificate_text.specs.declared.certificate.Reason.TheVariants as reason
use Rattle.certificate_text.specs.declared.certificate.ViaRow.{ViaRow}
use Rattle.recheck.specs.Truth.{HasVia}
use Rattle.certify.specs.Written.{Says, IsViaLine, AreVias}
use Rattle.certify.specs.Reasons.{IsPosed, pair_of, IsPathReason, HasReason}
use Rattle.certify.specs.Classes.{IsNearIn, IsRowOf, IsBound}
use Rattle.certify.proofs.StartRuns.{rising_push}

pub record IsSoundPair (ts : Trees) : Type 0 where
  pub sound : IsGraph ts.graph
  pub source : IsVertex ts.graph.vertices ts.source

pub sound_pair : (ts : Trees) (g : Graph) (q : Query) (best : Optimum) (radius : Option ℕ) → IsPosed g q best → ts ≡ pair_of g q radius → IsSoundPair ts
sound_pair ts g q best radius posed is =
    subst (λ (x : Trees). IsSoundPair x) (sym is) (record { sound = posed.limits.is_graph; source = posed.source })

-- the verdict that a reason is of

record HasVerdict (g : Graph) (q : Query) (o : List ℕ) (v : ℕ) (p : List ℕ) (r : Reason) : Type 0 where
  verdict : Verdict
  is_verdict : IsVerdict g q o v verdict
  says : Says g q p verdict r

has_verdict : (g : Graph) (q : Query) (o : List ℕ) (v : ℕ) (p : List ℕ) (r : Reason) → IsVia g q.from q.to v p → Stretches q.epsilon (walk_length g p) (walk_length g o) → IsPathReason g q o p r → HasVerdict g q o v p r
has_verdict g q o v p reason.Optimum via short h =
    record { verdict = verdict.Optimum; is_verdict = subst (λ (l : List ℕ). IsVia g q.from q.to v l) h via; says = tt }
has_verdict g q o v p (reason.Shared n) via short h =
    record {
      verdict = verdict.Shared n;
      is_verdict = record { path = p; is = record { through = via; other = h.other }; short = short; is_sum = h.is_sum; over = h.over };
      says = refl;
    }
has_verdict g q o v p (reason.Local first last detour) via short h =
    record {
      verdict = verdict.Local (record { first = first; last = last; distance = h.distance });
      is_verdict = record { path = p; is = record { through = via; other = h.other }; short = short; limited = h.limited; fails = h.fails };
      says = (refl, refl, h.own);
    }
has_verdict g q o v p (reason.Stretch first last detour) via short h =
    record {
      verdict = verdict.Stretch (record { first = first; last = last; distance = h.distance });
      is_verdict = record { path = p; is = record { through = via; other = h.other }; short = short; limited = h.limited; optimal = h.optimal; fails = h.fails };
      says = (refl, refl, h.own);
    }
has_verdict g q o v p (reason.Listed name) via short h =
    record {
      verdict = verdict.Listed name;
      is_verdict = record { path = p; is = record { through = via; other = h.other }; short = short; limited = h.limited; optimal = h.optimal; bounded = h.bounded; is_name = h.is_name };
      says = refl;
    }

-- a length within the bound is near
within_bound : (f : Fraction) (n bound l : ℕ) → n ≤ bound → Stretches f bound l → Stretches f n l
within_bound f n bound l le h = omega (arith, h, mul-le-mul_right f.den le)

pub via_line : (g : Graph) (q : Query) (best : Optimum) (ts : Trees) (bound : ℕ) (x : ViaRow) → IsPosed g q best → ts ≡ pair_of g q (Some bound) → IsBound q best.length bound → HasReason g q best.arcs x.vertex x.reason → IsNearIn ts bound x.vertex → IsViaLine g q best.arcs x
via_line g q best ts bound x posed trees b h near =
    let told : IsNearIn (pair_of g q (Some bound)) bound x.vertex = subst (λ (y : Trees). IsNearIn y bound x.vertex) trees near in
    let low : walk_length g h.path ≤ bound = told.low h.path h.through in
    let short : Stretches q.epsilon (walk_length g h.path) (walk_length g best.arcs) =
    subst (λ (n : ℕ). Stretches q.epsilon (walk_length g h.path) n) posed.best.1 (within_bound q.epsilon (walk_length g h.path) bound best.length low b.within) in
    let has : HasVerdict g q best.arcs x.vertex h.path x.reason = has_verdict g q best.arcs x.vertex h.path x.reason h.through short h.is in
    record { path = h.path; through = h.through; verdict = has.verdict; is_verdict = has.is_verdict; says = has.says }

-- the lines of the near ones among the first i vertices

pub record AreLines (g : Graph) (q : Query) (o : List ℕ) (ts : Trees) (bound : ℕ) (vs : List ℕ) (i : ℕ) (xs : List ViaRow) : Type 0 where
  pub each : (x : ViaRow) → Contains xs x → HasReason g q o x.vertex x.reason × IsNearIn ts bound x.vertex
  pub every : (j : ℕ) → j < i → j < length vs → IsNearIn ts bound (get_or vs j 0) → HasVia xs (get_or vs j 0)
  pub rising : IsStrictlyIncreasing (map (λ (x : ViaRow). x.vertex) xs)
  pub below : (x : ViaRow) (j : ℕ) → Contains xs x → i ≤ j → j < length vs → x.vertex < get_or vs j 0

pub lines_none : (g : Graph) (q : Query) (o : List ℕ) (ts : Trees) (bound : ℕ) (vs : List ℕ) → AreLines g q o ts bound vs 0 []
lines_none g q o ts bound vs =
    record {
      each = (λ x there. absurd (let none : there.0 < 0 = there.1 in omega arith));
      every = (λ j lt inside near. absurd (omega arith));
      rising = (λ k lt. absurd (omega arith));
      below = (λ x j there le inside. absurd (let none : there.0 < 0 = there.1 in omega arith));
    }

pub lines_skipped : (g : Graph) (q : Query) (o : List ℕ) (ts : Trees) (bound : ℕ) (vs : List ℕ) (i v : ℕ) (xs now : List ViaRow) → i < length vs → v ≡ get_or vs i v → (IsNearIn ts bound v → ⊥) → now ≡ xs → AreLines g q o ts bound vs i xs → AreLines g q o ts bound vs (i + 1) now
lines_skipped g q o ts bound vs i v xs now lt is far same h =
    let here : v ≡ get_or vs i 0 = is ∙ get_or_default vs i v 0 lt in
    subst (λ (l : List ViaRow). AreLines g q o ts bound vs (i + 1) l) (sym same)
    (record {
      each = h.each;
      every = (λ j before inside near.
          ⊎_elim
          (λ (less : j < i). h.every j less inside near)
          (λ (ge : i ≤ j).
          let place : j ≡ i = omega arith in
          absurd (far (subst (λ (n : ℕ). IsNearIn ts bound n) (ap (λ (n : ℕ). get_or vs n 0) place ∙ sym here) near)))
          (cases_lt j i));
      rising = h.rising;
      below = (λ x j there le inside. h.below x j there (omega arith) inside);
    })

pub lines_pushed : (g : Graph) (q : Query) (o : List ℕ) (ts : Trees) (bound : ℕ) (vs : List ℕ) (i v : ℕ) (xs now : List ViaRow) (x : ViaRow) → IsStrictlyIncreasing vs → i < length vs → v ≡ get_or vs i v → IsNearIn ts bound v → IsRowOf g q o v x → now ≡ xs ++ x ∷ [] → AreLines g q o ts bound vs i xs → AreLines g q o ts bound vs (i + 1) now
lines_pushed g q o ts bound vs i v xs now x ascending lt is near row more h =
    let here : x.vertex ≡ get_or vs i 0 = row.is_vertex ∙ (is ∙ get_or_default vs i v 0 lt) in
    subst (λ (l : List ViaRow). AreLines g q o ts bound vs (i + 1) l) (sym more)
    (record {
      each = (λ y there.
          ⊎_elim
          (λ (before : Contains xs y). h.each y before)
          (λ (same : x ≡ y). subst (λ (z : ViaRow). HasReason g q o z.vertex z.reason × IsNearIn ts bound z.vertex) same
          (subst (λ (n : ℕ). HasReason g q o n x.reason) (sym row.is_vertex) row.own, subst (λ (n : ℕ). IsNearIn ts bound n) (sym row.is_vertex) near))
          (Contains-push_cases xs x y there));
      every = (λ j before inside close.
          ⊎_elim
          (λ (less : j < i).
          let has = h.every j less inside close in
          record { line = has.line; listed = Contains-append_left xs (x ∷ []) has.line has.listed; vertex = has.vertex })
          (λ (ge : i ≤ j).
          let place : i ≡ j = omega arith in
          record { line = x; listed = Contains-push xs x; vertex = here ∙ ap (λ (n : ℕ). get_or vs n 0) place })
          (cases_lt j i));
      rising = subst (λ (l : List ℕ). IsStrictlyIncreasing l) (sym (map-append (λ (y : ViaRow). y.vertex) xs (x ∷ [])))
          (rising_push (map (λ (y : ViaRow). y.vertex) xs) x.vertex h.rising (λ k inside.
          let within : k < length xs = omega (arith, length-map xs (λ (y : ViaRow). y.vertex)) in
          let its : get_or (map (λ (y : ViaRow). y.vertex) xs) k 0 ≡ (get_or xs k x).vertex = get_or-map (λ (y : ViaRow). y.vertex) xs k x 0 within in
          let up : (get_or xs k x).vertex < get_or vs i 0 = h.below (get_or xs k x) i (Contains-get_or xs k x within) (omega arith) lt in
          omega arith));
      below = (λ y j there le inside.
          ⊎_elim
          (λ (before : Contains xs y). h.below y j before (omega arith) inside)
          (λ (same : x ≡ y).
          let up : get_or vs i 0 < get_or vs j 0 = AllPairs-from_increasing vs ascending i j 0 (omega arith) inside in
          subst (λ (z : ViaRow). z.vertex < get_or vs j 0) same (omega arith))
          (Contains-push_cases xs x y there));
    })

-- a vertex of a near path is near
near_of_via : (g : Graph) (q : Query) (bound v : ℕ) (p : List ℕ) → IsVia g q.from q.to v p → walk_length g p ≤ bound → IsNearIn (pair_of g q (Some bound)) bound v
near_of_via g q bound v p via le =
    let parts = via_parts g q.from q.to v p via in
    record {
      inside = record {
        from = record { distance = walk_length g via.prefix; dist = dist_of_shortest g q.from v via.prefix via.first.shortest; within = omega (arith, parts) };
        to = record { distance = walk_length g via.back; dist = dist_of_shortest g v q.to via.back via.last.shortest; within = omega (arith, parts) };
      };
      low = (λ other through.
          let same : p ≡ other = IsVia-unique g q.from q.to v p other via through in
          subst (λ (l : List ℕ). walk_length g l ≤ bound) same le);
    }

pub lines_all : (g : Graph) (q : Query) (best : Optimum) (ts : Trees) (bound : ℕ) (vs members : List ℕ) (i : ℕ) (xs : List ViaRow) → IsPosed g q best → ts ≡ pair_of g q (Some bound) → IsBound q best.length bound → IsMembersFrom ts.graph ts.radius ts.source members → vs ≡ members → length vs ≤ i → AreLines g q best.arcs ts bound vs i xs → AreVias g q best.arcs xs
lines_all g q best ts bound vs members i xs posed trees b inside same ge h =
    record {
      each = (λ x there. via_line g q best ts bound x posed trees b (h.each x there).0 (h.each x there).1);
      every = (λ v p via short.
          let low : walk_length g p ≤ bound = b.greatest (walk_length g p) (subst (λ (n : ℕ). Stretches q.epsilon (walk_length g p) n) (sym posed.best.1) short) in
          let near : IsNearIn ts bound v = subst (λ (y : Trees). IsNearIn y bound v) (sym trees) (near_of_via g q bound v p via low) in
          let there : Contains vs v = subst (λ (l : List ℕ). Contains l v) (sym same) (inside.every v near.inside.from) in
          let here : get_or vs there.0 0 ≡ v = get_or_default vs there.0 0 v there.1 ∙ there.2 in
          subst (λ (n : ℕ). HasVia xs n) here
          (h.every there.0 (let lt : there.0 < length vs = there.1 in omega arith) there.1 (subst (λ (n : ℕ). IsNearIn ts bound n) (sym here) near)));
      rising = h.rising;
    }
