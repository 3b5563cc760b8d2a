-- What an arc line in its common form says.
use Rattle.std.proofs.Common.{◌≡◌, ℕ, ◌+◌, ◌-◌, ◌*◌, ◌^◌, ◌<◌, ◌≤◌, true, false, List, [], ◌∷◌, ◌++◌, length, get_or, drop, codes, Option, Some, refl, sym, ap, subst, ◌∙◌, arith}
use Rattle.std.specs.List.{between}
use Rattle.std.specs.Char.{is_ascii_digit}
use Rattle.std.specs.Str.{all_ascii_digits}
use Rattle.std.specs.Str.Parse.{digits_value}
use Rattle.std.proofs.lemmas.Bool.{and_parts, and_from}
use Rattle.std.proofs.lemmas.Bool.Decides.{nat_tests}
use Rattle.std.proofs.lemmas.List.Edits.{between_more, between_none, length-between}
use Rattle.std.proofs.lemmas.Int.Digits.{digits_value_push}
use Rattle.std.proofs.lemmas.Str.Parse.{digits_value_short}
use Rattle.road_text.specs.Fields.{is_blank, fields_of, first_byte}
use Rattle.road_text.proofs.FieldLemmas.{Passes, fields_of-found, fields_of-passed, fields_of-past, first_byte-at}
use Rattle.road_text.proofs.NumberLemmas.{number_of-digits, digit_value-is, by_ascii_digits}
use Rattle.dimacs_reader.specs.Gr.{is_comment, is_byte}
use Rattle.dimacs_reader.specs.Fast.{IsNumberField, AreArcFields}

-- the digits from a place up to another, and what they are worth
pub record AreDigits (line : List ℕ) (at i n : ℕ) : Type 0 where
  pub digits : all_ascii_digits (between at i line) ≡ true
  pub value : n ≡ digits_value 10 (between at i line)

pub AreDigits-none : (line : List ℕ) (at : ℕ) → AreDigits line at at 0
AreDigits-none line at = record {
  digits = ap all_ascii_digits (between_none line at);
  value = sym (ap (digits_value 10) (between_none line at));
}

all_digits-push : (ds : List ℕ) (c : ℕ) → all_ascii_digits ds ≡ true → is_ascii_digit c ≡ true → all_ascii_digits (ds ++ c ∷ []) ≡ true
all_digits-push [] c h e = and_from (is_ascii_digit c) true e refl
all_digits-push (d ∷ ds) c h e =
    let both = and_parts (is_ascii_digit d) (all_ascii_digits ds) h in
    and_from (is_ascii_digit d) (all_ascii_digits (ds ++ c ∷ [])) both.0 (all_digits-push ds c both.1 e)

pub AreDigits-more : (line : List ℕ) (at i n : ℕ) → at ≤ i → i < length line → is_ascii_digit (get_or line i 0) ≡ true → AreDigits line at i n → AreDigits line at (i + 1) (n * 10 + (get_or line i 0 - 48))
AreDigits-more line at i n low lt e so_far =
    let b : ℕ = get_or line i 0 in
    let more : between at (i + 1) line ≡ between at i line ++ b ∷ [] = between_more line at i 0 low lt in
    record {
      digits = ap all_ascii_digits more ∙ all_digits-push (between at i line) b so_far.digits e;
      value = ap (λ (m : ℕ). m * 10 + (b - 48)) so_far.value ∙ ap (λ (m : ℕ). digits_value 10 (between at i line) * 10 + m) (sym (digit_value-is b e).0) ∙ sym (digits_value_push 10 (between at i line) b) ∙ sym (ap (digits_value 10) more);
    }

-- at most 18 digits leave room for one more
pub AreDigits-small : (line : List ℕ) (at i n : ℕ) → at ≤ i → i ≤ length line → i - at ≤ 18 → AreDigits line at i n → n < 10 ^ 18
AreDigits-small line at i n low high few so_far =
    let small : digits_value 10 (between at i line) < 10 ^ 18 = digits_value_short by_ascii_digits (between at i line) 18 so_far.digits (omega (arith, length-between line at i high)) in
    rw so_far.value small

digit_passes : (c : ℕ) → is_ascii_digit c ≡ true → is_blank c ≡ false
digit_passes c e = grind (arith, nat_tests)

pub digits_pass : (ds : List ℕ) → all_ascii_digits ds ≡ true → Passes ds
digits_pass [] h = tt
digits_pass (d ∷ ds) h =
    let both = and_parts (is_ascii_digit d) (all_ascii_digits ds) h in
    (digit_passes d both.0, digits_pass ds both.1)

-- a blank or the line's end after the digits
pub IsNumberField-from : (line : List ℕ) (at to n : ℕ) → at < to → to ≤ length line → to - at ≤ 19 → AreDigits line at to n → (to < length line → is_blank (get_or line to 0) ≡ true) → IsNumberField line at n to
IsNumberField-from line at to n some within few digits stops =
    let len : length (between at to line) ≡ to - at = length-between line at to within in
    record {
      some = some;
      within = within;
      field = fields_of-found line at to some within (digits_pass (between at to line) digits.digits) stops;
      number = number_of-digits (between at to line) (omega arith) (omega arith) digits.digits ∙ ap (λ (m : ℕ). Some m) (sym digits.value);
      beyond = stops;
    }

-- the three numbers, each after a blank
pub AreArcFields-from : (line : List ℕ) (tail head len a b c : ℕ) → 2 ≤ length line → get_or line 0 0 ≡ 97 → get_or line 1 0 ≡ 32 → IsNumberField line 2 tail a → a < length line → IsNumberField line (a + 1) head b → b < length line → IsNumberField line (b + 1) len c → length line ≤ c → AreArcFields line tail head len
unfolding is_comment
AreArcFields-from line tail head len a b c two first second t at' h bt l past =
    let word : between 0 1 line ≡ codes "a" = between_more line 0 0 0 (omega arith) (omega arith) ∙ ap (λ (x : ℕ). x ∷ []) first in
    let blank : is_blank (get_or line 1 0) ≡ true = ap is_blank second in
    let pass : Passes (between 0 1 line) = subst (λ (w : List ℕ). Passes w) (sym word) (refl, tt) in
    let cut0 = fields_of-found line 0 1 (omega arith) (omega arith) pass (λ _. blank) in
    let step0 = fields_of-passed line 1 (omega arith) blank in
    let step1 = fields_of-passed line a at' (t.beyond at') in
    let step2 = fields_of-passed line b bt (h.beyond bt) in
    let last = fields_of-past line c past in
    record {
      first = between 2 a line;
      second = between (a + 1) b line;
      third = between (b + 1) c line;
      fields = cut0 ∙ ap (λ (w : List ℕ). w ∷ fields_of (drop 1 line)) word
          ∙ ap (λ (fs : List (List ℕ)). codes "a" ∷ fs) (sym step0 ∙ t.field
          ∙ ap (λ (fs : List (List ℕ)). between 2 a line ∷ fs) (sym step1 ∙ h.field
          ∙ ap (λ (fs : List (List ℕ)). between (a + 1) b line ∷ fs) (sym step2 ∙ l.field
          ∙ ap (λ (fs : List (List ℕ)). between (b + 1) c line ∷ fs) last)));
      tail_is = t.number;
      head_is = h.number;
      length_is = l.number;
      shown = is_shown (first_byte-at line 0 (omega arith) (ap is_blank first)) first;
    }
  where
    is_shown : first_byte (drop 0 line) ≡ Some (get_or line 0 0) → get_or line 0 0 ≡ 97 → is_comment line ≡ false
    is_shown e f = ap (λ (o : Option ℕ). is_byte o 99) e ∙ ap (λ (x : ℕ). is_byte (Some x) 99) f
