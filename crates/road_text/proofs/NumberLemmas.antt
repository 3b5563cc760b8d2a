-- What the digits of a number are worth.
use Rattle.std.proofs.Common.{◌≡◌, ℕ, ◌+◌, ◌-◌, ◌*◌, ◌^◌, ◌<◌, ◌≤◌, Bool, true, false, ◌&&◌, cond, ltb, leb, List, length, get_or, drop, take, Some, None, refl, sym, ap, ◌∙◌, arith, ⊎_elim, ◌⊎◌}
use Rattle.std.specs.Char.{digit_value, is_ascii_digit}
use Rattle.std.specs.Str.{all_ascii_digits}
use Rattle.std.specs.Str.Parse.{AllDigits, digits_value}
use Rattle.std.proofs.lemmas.Bool.{lt-ltb, le-leb, lt-leb}
use Rattle.std.proofs.lemmas.Bool.Decides.{nat_tests}
use Rattle.std.proofs.lemmas.List.{take_all, drop_all, length-take-le, at_drop_more}
use Rattle.std.proofs.lemmas.Int.Digits.{digits_more, digits_value_more}
use Rattle.std.proofs.lemmas.Str.Parse.{IsNumeralModel, numerals_by_value, tells_digits, digits_value_short, tells_all_ascii_digits}
use Rattle.road_text.specs.Numbers.{number_of, canonical_of, has_leading_zero}

by_digits : IsNumeralModel (AllDigits 10) (digits_value 10)
by_digits = numerals_by_value (AllDigits 10) tells_digits

-- at most 18 digits leave room for one more
pub digits_value-small : (bs : List ℕ) (i : ℕ) → i ≤ length bs → i ≤ 18 → AllDigits 10 (take i bs) → digits_value 10 (take i bs) < 10 ^ 18
digits_value-small bs i within few h = digits_value_short by_digits (take i bs) 18 h (omega (arith, length-take-le i bs within))

pub digit_value-is : (b : ℕ) → is_ascii_digit b ≡ true → (digit_value b ≡ b - 48) × (b - 48 < 10)
digit_value-is b e = grind (arith, nat_tests)

pub number_of-wrong_length : (bs : List ℕ) → (length bs ≡ 0) ⊎ (19 < length bs) → number_of bs ≡ None
unfolding number_of
number_of-wrong_length bs h =
    ⊎_elim
    (λ (none : length bs ≡ 0). rw (none) refl)
    (λ (many : 19 < length bs). rw (lt-leb (length bs) 19 many, lt-ltb 0 (length bs) (omega arith)) refl)
    h

-- a byte that is no digit
pub number_of-stop : (bs : List ℕ) (i : ℕ) → i < length bs → is_ascii_digit (get_or bs i 0) ≡ false → all_ascii_digits (drop i bs) ≡ all_ascii_digits bs → number_of bs ≡ None
unfolding number_of
number_of-stop bs i lt e same =
    let no : all_ascii_digits bs ≡ false = sym same ∙ at_drop_more all_ascii_digits bs i 0 lt ∙ ap (λ (t : Bool). t && all_ascii_digits (drop (i + 1) bs)) e in
    rw no (and_no (ltb 0 (length bs) && leb (length bs) 19) (digits_value 10 bs))
  where
    and_no : (t : Bool) (n : ℕ) → cond (t && false) (Some n) None ≡ None
    and_no true n = refl
    and_no false n = refl

pub number_of-digits : (bs : List ℕ) → 0 < length bs → length bs ≤ 19 → all_ascii_digits bs ≡ true → number_of bs ≡ Some (digits_value 10 bs)
unfolding number_of
number_of-digits bs some few all = rw (lt-ltb 0 (length bs) some, le-leb (length bs) 19 few, all) refl

-- the loop's end
pub number_of-all : (bs : List ℕ) (i n : ℕ) → length bs ≤ i → 0 < length bs → length bs ≤ 19 → all_ascii_digits (drop i bs) ≡ all_ascii_digits bs → n ≡ digits_value 10 (take i bs) → number_of bs ≡ Some n
number_of-all bs i n past some few same value =
    let all : all_ascii_digits bs ≡ true = sym same ∙ ap all_ascii_digits (drop_all i bs past) in
    number_of-digits bs some few all ∙ ap (λ (m : ℕ). Some m) (ap (λ (ds : List ℕ). digits_value 10 ds) (sym (take_all i bs past)) ∙ sym value)

-- one digit on
pub record OneDigitOn (bs : List ℕ) (i n : ℕ) : Type 0 where
  pub value : n ≡ digits_value 10 (take (i + 1) bs)
  pub digits : AllDigits 10 (take (i + 1) bs)
  pub rest : all_ascii_digits (drop (i + 1) bs) ≡ all_ascii_digits bs

pub one_digit_on : (bs : List ℕ) (i n : ℕ) → i < length bs → is_ascii_digit (get_or bs i 0) ≡ true → n ≡ digits_value 10 (take i bs) → AllDigits 10 (take i bs) → all_ascii_digits (drop i bs) ≡ all_ascii_digits bs → OneDigitOn bs i (n * 10 + (get_or bs i 0 - 48))
one_digit_on bs i n lt e value digits rest =
    let d = digit_value-is (get_or bs i 0) e in
    record {
      value = ap (λ (m : ℕ). m * 10 + (get_or bs i 0 - 48)) value ∙ ap (λ (m : ℕ). digits_value 10 (take i bs) * 10 + m) (sym d.0) ∙ sym (digits_value_more 10 bs i lt);
      digits = digits_more 10 bs i lt digits (rw d.0 d.1);
      rest = sym (ap (λ (t : Bool). t && all_ascii_digits (drop (i + 1) bs)) e) ∙ sym (at_drop_more all_ascii_digits bs i 0 lt) ∙ rest;
    }

pub canonical_of-zero : (bs : List ℕ) → 1 < length bs → get_or bs 0 0 ≡ 48 → canonical_of bs ≡ None
unfolding canonical_of
canonical_of-zero bs many e = rw (e, lt-ltb 1 (length bs) many) refl

pub canonical_of-plain : (bs : List ℕ) → has_leading_zero bs ≡ false → canonical_of bs ≡ number_of bs
unfolding canonical_of
canonical_of-plain bs e = rw e refl

-- decimal digits, told by the test of a text
pub by_ascii_digits : IsNumeralModel (λ ds. all_ascii_digits ds ≡ true) (digits_value 10)
by_ascii_digits = numerals_by_value (λ ds. all_ascii_digits ds ≡ true) tells_all_ascii_digits
