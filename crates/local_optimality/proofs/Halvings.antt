-- Ranges of first places, and of ends, that one question after the other clears or halves.
use Rattle.std.proofs.Common.{◌≡◌, ◌≢◌, ℕ, Bool, true, false, IsTrue, IfSome, ◌+◌, ◌-◌, ◌*◌, ◌<◌, ◌≤◌, length, Option, Some, None, refl, sym, ◌∙◌, subst, arith, ⊎_elim}
use Rattle.std.proofs.lemmas.Bool.{cases_lt}
use Rattle.road_model.specs.declared.answer.Pair.{Pair}
use Rattle.road_model.specs.declared.trail.Trail.{Trail}
use Rattle.road_model.specs.Graph.{Graph}
use Rattle.road_model.specs.Fraction.{Fraction}
use Rattle.road_model.specs.Places.{vertex_at, between, IsDistAt}
use Rattle.road_model.specs.Tests.{IsTested, FailsLocal, IsLeastFailure}
use Rattle.road_model.specs.ViaWalk.{AsksWithin}
use Rattle.road_model.proofs.Dists.{IsDist-same}
use Rattle.path_tests.specs.JoinedTrail.{IsJoinedTrail}
use Rattle.path_tests.specs.Passing.{HasFailure}
use Rattle.path_tests.proofs.Searches.{AsksWithin-none, AsksWithin-both, AsksWithin-up}
use Rattle.local_optimality.specs.Detour.{HasRisingSums, IsDetour, TellsDetour, FindsDetour, IsFailingStart, FindsFailingStart}
use Rattle.local_optimality.proofs.TestedParts.{IsTested-earlier, IsTested-up}
use Rattle.local_optimality.proofs.ClearSubpaths.{HasRisingSums-from_joined, clear_passes, local_in_prefix, detour_is_least}

-- one subpath that is as long as the distance clears all first places in it before `end`, if it is no shorter than
-- what is tested from the last of them
pub starts_cleared : (o : Graph) (f : Fraction) (l : ℕ) (t : Trail) (via first end reach : ℕ) → IsJoinedTrail o t via → end ≤ via → via ≤ reach → reach < length t.vertices → ((i j d : ℕ) → i < first → FailsLocal o f l t i j d → ⊥) → IsDistAt o t first reach (between t first reach) → ((j : ℕ) → reach < j → j < length t.vertices → IsTested f l t (end - 1) j → ⊥) → (i j d : ℕ) → i < end → FailsLocal o f l t i j d → ⊥
starts_cleared o f l t via first end reach h within beyond inside below clear untested i j d before fails =
    ⊎_elim (λ (less : i < first). below i j d less fails)
    (λ (from : first ≤ i).
    ⊎_elim (λ (past : reach < j).
    let later : IsTested f l t (i + (end - 1 - i)) j = IsTested-up f l t i (end - 1 - i) j (HasRisingSums-from_joined o t via h) (omega arith) fails.inside fails.tested in
    let same : i + (end - 1 - i) ≡ end - 1 = omega arith in
    untested j past fails.inside (subst (λ (x : ℕ). IsTested f l t x j) same later))
    (λ (le : j ≤ reach).
    clear_passes o f l t i j d (h.inner first i j reach from (omega (arith, fails.rise)) le inside clear) fails)
    (cases_lt reach j))
    (cases_lt i first)

-- the first places before `first` do not fail; as many questions as that, but for the width of the next range
pub record OnRounds (old now : Graph) (f : Fraction) (l : ℕ) (t : Trail) (asked_old asked_now via first width : ℕ) : Type 0 where
  pub same : now ≡ old
  pub passed : (i j d : ℕ) → i < first → FailsLocal old f l t i j d → ⊥
  pub inside : first ≤ via
  pub some : 1 ≤ width
  pub count : ℕ
  pub asks : AsksWithin asked_old asked_now count
  pub few : count + width ≤ 2 * first + 1

pub OnRounds-start : (o : Graph) (f : Fraction) (l : ℕ) (t : Trail) (asked via first : ℕ) → IsJoinedTrail o t via → first ≤ via → ((i j : ℕ) → i < first → via < j → j < length t.vertices → IsTested f l t i j → ⊥) → OnRounds o o f l t asked asked via first 1
OnRounds-start o f l t asked via first h within untested =
    record {
      same = refl;
      passed = (λ i j d before fails.
          ⊎_elim (λ (lt : via < j). untested i j before lt fails.inside fails.tested)
          (λ (le : j ≤ via). local_in_prefix o f l t via i j d h le fails)
          (cases_lt via j));
      inside = within;
      some = omega arith;
      count = 0;
      asks = AsksWithin-none asked;
      few = omega arith;
    }

pub OnRounds-cleared : (old now after : Graph) (f : Fraction) (l : ℕ) (t : Trail) (asked_old asked_now asked_after via first width end reach next : ℕ) (found : Option ℕ) → IsJoinedTrail old t via → OnRounds old now f l t asked_old asked_now via first width → after ≡ now → AsksWithin asked_now asked_after 1 → TellsDetour now t first reach found → found ≡ None → first < end → end ≤ via → via ≤ reach → reach < length t.vertices → ((j : ℕ) → reach < j → j < length t.vertices → IsTested f l t (end - 1) j → ⊥) → 1 ≤ next → next ≤ 2 * (end - first) → OnRounds old after f l t asked_old asked_after via end next
OnRounds-cleared old now after f l t asked_old asked_now asked_after via first width end reach next found h r same one told none onward within beyond inside untested some narrow =
    let clear_now : IsDistAt now t first reach (between t first reach) = subst (λ (o : Option ℕ). TellsDetour now t first reach o) none told in
    let clear : IsDistAt old t first reach (between t first reach) = subst (λ (g : Graph). IsDistAt g t first reach (between t first reach)) r.same clear_now in
    record {
      same = same ∙ r.same;
      passed = starts_cleared old f l t via first end reach h within beyond inside r.passed clear untested;
      inside = within;
      some = some;
      count = r.count + 1;
      asks = AsksWithin-both asked_old asked_now asked_after r.count 1 r.asks one;
      few = omega (arith, r.few, r.some);
    }

pub OnRounds-halved : (old now after : Graph) (f : Fraction) (l : ℕ) (t : Trail) (asked_old asked_now asked_after via first width next : ℕ) → OnRounds old now f l t asked_old asked_now via first width → after ≡ now → AsksWithin asked_now asked_after 1 → 1 ≤ next → next + 1 ≤ width → OnRounds old after f l t asked_old asked_after via first next
OnRounds-halved old now after f l t asked_old asked_now asked_after via first width next r same one some less =
    record {
      same = same ∙ r.same;
      passed = r.passed;
      inside = r.inside;
      some = some;
      count = r.count + 1;
      asks = AsksWithin-both asked_old asked_now asked_after r.count 1 r.asks one;
      few = omega (arith, r.few);
    }

pub asks_once_more : (old now : Graph) (f : Fraction) (l : ℕ) (t : Trail) (asked_old asked_now asked_after via first width n : ℕ) → OnRounds old now f l t asked_old asked_now via first width → AsksWithin asked_now asked_after 1 → 2 * first + 1 ≤ n → AsksWithin asked_old asked_after n
asks_once_more old now f l t asked_old asked_now asked_after via first width n r one low =
    AsksWithin-up asked_old asked_after (r.count + 1) n (omega (arith, r.few, r.some)) (AsksWithin-both asked_old asked_now asked_after r.count 1 r.asks one)

-- a detour that begins before the via ends after it
pub detour_beyond : (o : Graph) (t : Trail) (via first reach d : ℕ) → IsJoinedTrail o t via → first < via → first ≤ reach → IsDetour o t first reach d → via < reach
detour_beyond o t via first reach d h before rise detour =
    ⊎_elim (λ (lt : via < reach). lt)
    (λ (le : reach ≤ via). absurd (detour.other (IsDist-same o (vertex_at t first) (vertex_at t reach) (between t first reach) d (h.prefix first reach rise le) detour.dist)))
    (cases_lt via reach)

pub IsDetour-told : (old now : Graph) (t : Trail) (first reach d : ℕ) (found : Option ℕ) → now ≡ old → TellsDetour now t first reach found → found ≡ Some d → IsDetour old t first reach d
IsDetour-told old now t first reach d found same told is =
    let then : IsDetour now t first reach d = subst (λ (o : Option ℕ). TellsDetour now t first reach o) is told in
    subst (λ (g : Graph). IsDetour g t first reach d) same then

-- what is found of the least failing first place
pub failing_fails : (o : Graph) (f : Fraction) (l : ℕ) (t : Trail) (via : ℕ) (pair : Pair) → IsFailingStart o f l t via pair → HasFailure (FailsLocal o f l t)
failing_fails o f l t via pair s =
    record {
      first = pair.first;
      last = pair.last;
      distance = pair.distance;
      fails = record {
        rise = omega (arith, s.before, s.beyond);
        inside = s.inside;
        tested = s.tested pair.last s.beyond (omega arith);
        dist = s.detour.dist;
        other = s.detour.other;
      };
    }

-- the ends up to `clear` are no detours, and `last` is one
pub record OnEnds (old now : Graph) (t : Trail) (asked_old asked_now via first reach clear last distance : ℕ) : Type 0 where
  pub same : now ≡ old
  pub from : via ≤ clear
  pub apart : clear < last
  pub within : last ≤ reach
  pub passed : IsDistAt old t first clear (between t first clear)
  pub detour : IsDetour old t first last distance
  pub asks : AsksWithin asked_old asked_now ((reach - via) - (last - clear))

pub OnEnds-cleared : (old now after : Graph) (t : Trail) (asked_old asked_now asked_after via first reach clear last distance middle d long : ℕ) → OnEnds old now t asked_old asked_now via first reach clear last distance → after ≡ now → AsksWithin asked_now asked_after 1 → clear < middle → middle < last → IsDistAt now t first middle d → long ≡ between t first middle → d ≡ long → OnEnds old after t asked_old asked_after via first reach middle last distance
OnEnds-cleared old now after t asked_old asked_now asked_after via first reach clear last distance middle d long e same one low high answer is equal =
    let here : IsDistAt old t first middle d = subst (λ (g : Graph). IsDistAt g t first middle d) e.same answer in
    record {
      same = same ∙ e.same;
      from = omega (arith, e.from);
      apart = high;
      within = e.within;
      passed = subst (λ (n : ℕ). IsDistAt old t first middle n) (equal ∙ is) here;
      detour = e.detour;
      asks = AsksWithin-up asked_old asked_after ((reach - via) - (last - clear) + 1) ((reach - via) - (last - middle)) (omega (arith, e.from, e.within)) (AsksWithin-both asked_old asked_now asked_after ((reach - via) - (last - clear)) 1 e.asks one);
    }

pub OnEnds-found : (old now after : Graph) (t : Trail) (asked_old asked_now asked_after via first reach clear last distance middle d long : ℕ) → OnEnds old now t asked_old asked_now via first reach clear last distance → after ≡ now → AsksWithin asked_now asked_after 1 → clear < middle → middle < last → IsDistAt now t first middle d → long ≡ between t first middle → d ≢ long → OnEnds old after t asked_old asked_after via first reach clear middle d
OnEnds-found old now after t asked_old asked_now asked_after via first reach clear last distance middle d long e same one low high answer is apart =
    record {
      same = same ∙ e.same;
      from = e.from;
      apart = low;
      within = omega (arith, e.within);
      passed = e.passed;
      detour = record {
        dist = subst (λ (g : Graph). IsDistAt g t first middle d) e.same answer;
        other = (λ equal. apart (sym equal ∙ sym is));
      };
      asks = AsksWithin-up asked_old asked_after ((reach - via) - (last - clear) + 1) ((reach - via) - (middle - clear)) (omega (arith, e.from, e.within)) (AsksWithin-both asked_old asked_now asked_after ((reach - via) - (last - clear)) 1 e.asks one);
    }

-- where they meet, the end is the first
pub end_found : (old now : Graph) (t : Trail) (asked_old asked_now via first reach clear last distance : ℕ) (pair : Pair) → IsJoinedTrail old t via → first < via → reach < length t.vertices → OnEnds old now t asked_old asked_now via first reach clear last distance → last ≤ clear + 1 → pair ≡ record { first = first; last = last; distance = distance } → FindsDetour old t via first reach pair
end_found old now t asked_old asked_now via first reach clear last distance pair h before inside e meet is =
    subst (λ (p : Pair). FindsDetour old t via first reach p) (sym is)
    (record {
      here = refl;
      beyond = omega (arith, e.from, e.apart);
      within = e.within;
      detour = e.detour;
      least = (λ j lt less. h.inner first first j clear (omega arith) (omega arith) (omega (arith, meet, less)) (omega (arith, e.apart, e.within)) e.passed);
    })

-- no first place so far is tested with an end after the via
pub starts_untested : (f : Fraction) (l : ℕ) (t : Trail) (via first : ℕ) (tested : Bool) → HasRisingSums t → first < via → ((i j : ℕ) → i < first → via < j → j < length t.vertices → IsTested f l t i j → ⊥) → (IsTested f l t first (via + 1) → IsTrue tested) → tested ≡ false → (i j : ℕ) → i < first + 1 → via < j → j < length t.vertices → IsTested f l t i j → ⊥
starts_untested f l t via first tested r before below only none i j lt beyond inside h =
    ⊎_elim (λ (less : i < first). below i j less beyond inside h)
    (λ (le : first ≤ i).
    let same : i ≡ first = omega arith in
    let here : IsTested f l t first j = subst (λ (x : ℕ). IsTested f l t x j) same h in
    let near : IsTested f l t first (via + 1) = IsTested-earlier f l t first (via + 1) j r (omega arith) (omega arith) inside here in
    let clash : true ≡ false = sym (only near) ∙ none in
    absurd (let e : true ≡ false = clash in cc))
    (cases_lt i first)

pub failing_in : (o : Graph) (f : Fraction) (l : ℕ) (t : Trail) (via : ℕ) (found : Option Pair) (pair : Pair) → FindsFailingStart o f l t via found → found ≡ Some pair → IsFailingStart o f l t via pair
failing_in o f l t via found pair h is = subst (λ (x : Option Pair). FindsFailingStart o f l t via x) is h

-- questions, and places to ask them for
pub asks_of_start : (o : Graph) (t : Trail) (via asked_old asked_now : ℕ) → IsJoinedTrail o t via → AsksWithin asked_old asked_now (2 * via) → AsksWithin asked_old asked_now (via + length t.vertices)
asks_of_start o t via asked_old asked_now h asks =
    AsksWithin-up asked_old asked_now (2 * via) (via + length t.vertices) (omega (arith, h.via_inside)) asks

pub asks_before_in : (asked_old asked_now : ℕ) (found : Option Pair) (pair : Pair) → IfSome found (λ p. AsksWithin asked_old asked_now (2 * p.first + 1)) → found ≡ Some pair → AsksWithin asked_old asked_now (2 * pair.first + 1)
asks_before_in asked_old asked_now found pair h is = subst (λ (x : Option Pair). IfSome x (λ p. AsksWithin asked_old asked_now (2 * p.first + 1))) is h

pub asks_of_local : (o : Graph) (f : Fraction) (l : ℕ) (t : Trail) (via asked_old asked_now asked_after : ℕ) (pair : Pair) → IsFailingStart o f l t via pair → AsksWithin asked_old asked_now (2 * pair.first + 1) → AsksWithin asked_now asked_after (pair.last - (via + 1)) → AsksWithin asked_old asked_after (via + length t.vertices)
asks_of_local o f l t via asked_old asked_now asked_after pair s before after =
    AsksWithin-up asked_old asked_after (2 * pair.first + 1 + (pair.last - (via + 1))) (via + length t.vertices) (omega (arith, s.before, s.beyond, s.inside))
    (AsksWithin-both asked_old asked_now asked_after (2 * pair.first + 1) (pair.last - (via + 1)) before after)

-- the least end of the least first place
pub least_failing : (old now : Graph) (f : Fraction) (l : ℕ) (t : Trail) (via : ℕ) (start pair : Pair) → now ≡ old → IsJoinedTrail old t via → IsFailingStart old f l t via start → FindsDetour now t via start.first start.last pair → IsLeastFailure (FailsLocal old f l t) pair.first pair.last pair.distance
least_failing old now f l t via start pair same h s found =
    detour_is_least old f l t via start.first start.last pair h s.before s.inside s.below s.tested
    (subst (λ (g : Graph). FindsDetour g t via start.first start.last pair) same found)

-- a range of one first place
pub last_of_one : (f : Fraction) (l : ℕ) (t : Trail) (via first end last : ℕ) → end - first ≡ 1 → first < end → ((j : ℕ) → via < j → j ≤ last → IsTested f l t (end - 1) j) → (j : ℕ) → via < j → j ≤ last → IsTested f l t first j
last_of_one f l t via first end last one onward h j lt le =
    let same : end - 1 ≡ first = omega arith in
    subst (λ (x : ℕ). IsTested f l t x j) same (h j lt le)
