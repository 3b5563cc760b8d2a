-- A canonical number is written in one way.
use Rattle.std.proofs.Common.{◌≡◌, ◌≢◌, ℕ, ◌^◌, ◌<◌, ◌≤◌, Bool, true, false, cond, List, length, get_or, Some, None, refl, sym, ap, ◌∙◌, arith, ⊎_elim, lit<}
use Rattle.std.specs.Prelude.{◌==◌, ◌&&◌, nat_lt, nat_le, decimal}
use Rattle.std.specs.Str.{all_ascii_digits}
use Rattle.std.specs.Str.Parse.{digits_value}
use Rattle.std.proofs.lemmas.Bool.{and_parts, and_left, and_right, and_cases, eqb-false, ltb-true, ltb-false, leb-true, ne_eqb, le-ltb, cases_lt}
use Rattle.std.proofs.lemmas.Fmt.{decimal_nonempty, decimal-digits_value, digits_decimal, digits_value-decimal, first_decimal, length-decimal-le}
use Rattle.std.proofs.lemmas.Str.Parse.{digits_value_short}
use Rattle.road_text.specs.Numbers.{is_number, number_of, has_leading_zero, canonical_of}
use Rattle.road_text.proofs.NumberLemmas.{canonical_of-plain, number_of-digits, by_ascii_digits}

pub all_ascii_digits-decimal : (n : ℕ) → n < 2 ^ 64 → all_ascii_digits (decimal n) ≡ true
all_ascii_digits-decimal n fits = digits_decimal by_ascii_digits n fits

-- ---- a written number is read

has_leading_zero-decimal : (n : ℕ) → n < 2 ^ 64 → has_leading_zero (decimal n) ≡ false
has_leading_zero-decimal n fits =
    ⊎_elim
    (λ (none : n < 1). and_right (get_or (decimal n) 0 0 == 48) (nat_lt 1 (length (decimal n))) (le-ltb 1 (length (decimal n)) (length-decimal-le 1 n (lit< tt) (omega arith) fits)))
    (λ (some : 1 ≤ n).
    let other : get_or (decimal n) 0 0 ≢ 48 = (let first = first_decimal n some fits in omega arith) in
    and_left (get_or (decimal n) 0 0 == 48) (nat_lt 1 (length (decimal n))) (ne_eqb (get_or (decimal n) 0 0) 48 other))
    (cases_lt n 1)

pub canonical_of-decimal : (n : ℕ) → n < 10 ^ 19 → canonical_of (decimal n) ≡ Some n
canonical_of-decimal n small =
    let fits : n < 2 ^ 64 = omega arith in
    canonical_of-plain (decimal n) (has_leading_zero-decimal n fits)
    ∙ number_of-digits (decimal n) (decimal_nonempty n fits) (length-decimal-le 19 n (lit< tt) small fits) (all_ascii_digits-decimal n fits)
    ∙ ap (λ (m : ℕ). Some m) (digits_value-decimal by_ascii_digits n fits)

-- ---- a number that was read is written as it was

pub record IsSpelling (field : List ℕ) (n : ℕ) : Type 0 where
  pub field_is : field ≡ decimal n
  pub small : n < 10 ^ 19

read_parts : (zero digits : Bool) (m n : ℕ) → cond zero None (cond digits (Some m) None) ≡ Some n → (zero ≡ false) × (digits ≡ true) × (m ≡ n)
read_parts true digits m n e = cc
read_parts false true m n e = (refl, refl, cc)
read_parts false false m n e = cc

plain : (field : List ℕ) → has_leading_zero field ≡ false → 0 < length field → get_or field 0 0 ≡ 48 → length field ≡ 1
plain field none some zero =
    ⊎_elim
    (λ (other : (get_or field 0 0 == 48) ≡ false). absurd (eqb-false (get_or field 0 0) 48 other zero))
    (λ (short : nat_lt 1 (length field) ≡ false). (let few = ltb-false 1 (length field) short in omega arith))
    (and_cases (get_or field 0 0 == 48) (nat_lt 1 (length field)) none)

pub IsSpelling-from_read : (field : List ℕ) (n : ℕ) → canonical_of field ≡ Some n → IsSpelling field n
unfolding canonical_of number_of
IsSpelling-from_read field n e =
    let read = read_parts (has_leading_zero field) (is_number field) (digits_value 10 field) n e in
    let parts = and_parts (nat_lt 0 (length field) && nat_le (length field) 19) (all_ascii_digits field) read.1 in
    let lengths = and_parts (nat_lt 0 (length field)) (nat_le (length field) 19) parts.0 in
    let some : 0 < length field = ltb-true 0 (length field) lengths.0 in
    let few : length field ≤ 19 = leb-true (length field) 19 lengths.1 in
    let small : digits_value 10 field < 10 ^ 19 = digits_value_short by_ascii_digits field 19 parts.1 few in
    record {
      field_is = sym (decimal-digits_value by_ascii_digits field parts.1 some (plain field read.0 some) (omega arith)) ∙ ap decimal read.2;
      small = omega (arith, read.2);
    }
