-- Counts of questions, and the first places that fail.
use Rattle.std.proofs.Common.{ℕ, ◌+◌, ◌<◌, ◌≤◌, arith, ⊎_elim}
use Rattle.std.proofs.lemmas.Bool.{cases_lt}
use Rattle.road_model.specs.ViaWalk.{AsksWithin}

pub AsksWithin-none : (a : ℕ) → AsksWithin a a 0
AsksWithin-none a = record { few = omega arith; counted = (λ lt. (omega arith, lt)) }

pub AsksWithin-both : (a b c n m : ℕ) → AsksWithin a b n → AsksWithin b c m → AsksWithin a c (n + m)
AsksWithin-both a b c n m h k =
    record {
      few = omega (arith, h.few, k.few);
      counted = (λ lt.
          let one = h.counted lt in
          let two = k.counted one.1 in
          (omega arith, two.1));
    }

pub AsksWithin-up : (a b n m : ℕ) → n ≤ m → AsksWithin a b n → AsksWithin a b m
AsksWithin-up a b n m le h = record { few = omega (arith, h.few); counted = h.counted }

-- where no first place below one fails, a failing pair begins there or later
pub starts_least : (F : ℕ → ℕ → ℕ → Type 0) (first : ℕ) → ((i j d : ℕ) → i < first → F i j d → ⊥) → (i j d : ℕ) → F i j d → first ≤ i
starts_least F first below i j d h =
    ⊎_elim (λ (less : i < first). absurd (below i j d less h)) (λ (le : first ≤ i). le) (cases_lt i first)
