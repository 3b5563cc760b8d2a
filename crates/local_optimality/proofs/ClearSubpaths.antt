-- Detours: which subpaths are as long as the distance between their ends, and which tested ones are not.
use Rattle.std.proofs.Common.{ℕ, ◌<◌, ◌≤◌, length, sym, subst, arith, ⊎_elim}
use Rattle.std.proofs.lemmas.Bool.{cases_lt}
use Rattle.road_model.specs.declared.answer.Pair.{Pair}
use Rattle.road_model.specs.declared.trail.Trail.{Trail}
use Rattle.road_model.specs.Graph.{Graph}
use Rattle.road_model.specs.Fraction.{Fraction}
use Rattle.road_model.specs.Places.{vertex_at, between, IsDistAt}
use Rattle.road_model.specs.Tests.{IsTested, FailsLocal, NoneFails, IsLeastFailure}
use Rattle.road_model.proofs.Dists.{IsDist-same}
use Rattle.path_tests.specs.JoinedTrail.{IsJoinedTrail}
use Rattle.path_tests.proofs.Searches.{starts_least}
use Rattle.local_optimality.specs.Detour.{HasRisingSums, FindsDetour}

pub HasRisingSums-from_joined : (o : Graph) (t : Trail) (via : ℕ) → IsJoinedTrail o t via → HasRisingSums t
HasRisingSums-from_joined o t via h = record { same_length = h.same_length; few = h.few; rising = h.rising }

-- a subpath as long as the distance does not fail
pub clear_passes : (o : Graph) (f : Fraction) (l : ℕ) (t : Trail) (i j d : ℕ) → IsDistAt o t i j (between t i j) → FailsLocal o f l t i j d → ⊥
clear_passes o f l t i j d h fails =
    fails.other (IsDist-same o (vertex_at t i) (vertex_at t j) (between t i j) d h fails.dist)

pub local_in_back : (o : Graph) (f : Fraction) (l : ℕ) (t : Trail) (via i j d : ℕ) → IsJoinedTrail o t via → via ≤ i → FailsLocal o f l t i j d → ⊥
local_in_back o f l t via i j d h le fails =
    clear_passes o f l t i j d (h.back i j le (omega (arith, fails.rise)) fails.inside) fails

pub local_in_prefix : (o : Graph) (f : Fraction) (l : ℕ) (t : Trail) (via i j d : ℕ) → IsJoinedTrail o t via → j ≤ via → FailsLocal o f l t i j d → ⊥
local_in_prefix o f l t via i j d h le fails =
    clear_passes o f l t i j d (h.prefix i j (omega (arith, fails.rise)) le) fails

pub local_none : (o : Graph) (f : Fraction) (l : ℕ) (t : Trail) (via first : ℕ) → IsJoinedTrail o t via → via ≤ first → ((i j d : ℕ) → i < first → FailsLocal o f l t i j d → ⊥) → NoneFails (FailsLocal o f l t)
local_none o f l t via first h le below i j d fails =
    ⊎_elim (λ (less : i < first). below i j d less fails)
    (λ (beyond : first ≤ i). local_in_back o f l t via i j d h (omega arith) fails)
    (cases_lt i first)

-- the first detour among the tested subpaths is the least failing pair
pub detour_is_least : (o : Graph) (f : Fraction) (l : ℕ) (t : Trail) (via first reach : ℕ) (pair : Pair) → IsJoinedTrail o t via → first < via → reach < length t.vertices → ((i j d : ℕ) → i < first → FailsLocal o f l t i j d → ⊥) → ((j : ℕ) → via < j → j ≤ reach → IsTested f l t first j) → FindsDetour o t via first reach pair → IsLeastFailure (FailsLocal o f l t) pair.first pair.last pair.distance
detour_is_least o f l t via first reach pair h before inside below tested found =
    let fails : FailsLocal o f l t first pair.last pair.distance = record {
      rise = omega (arith, found.beyond);
      inside = omega (arith, found.within);
      tested = tested pair.last found.beyond found.within;
      dist = found.detour.dist;
      other = found.detour.other;
    } in
    record {
      fails = subst (λ (n : ℕ). FailsLocal o f l t n pair.last pair.distance) (sym found.here) fails;
      first = (λ a b c g. subst (λ (n : ℕ). n ≤ a) (sym found.here) (starts_least (FailsLocal o f l t) first below a b c g));
      last = (λ b c g.
          let other : FailsLocal o f l t first b c = subst (λ (n : ℕ). FailsLocal o f l t n b c) found.here g in
          ⊎_elim (λ (less : b < pair.last).
          absurd (⊎_elim (λ (lt : via < b). clear_passes o f l t first b c (found.least b lt less) other)
          (λ (le : b ≤ via). local_in_prefix o f l t via first b c h le other)
          (cases_lt via b)))
          (λ (le : pair.last ≤ b). le)
          (cases_lt b pair.last));
    }
