use Rattle.std.proofs.Common.{◌≡◌, ℕ, ◌+◌, ◌*◌, ap, ◌∙◌, ◌^◌, ◌<◌, ◌-◌, true, false, get_or, take, sym, arith, rules, inl, inr}
use Rattle.std.specs.Char.{is_ascii_digit}
use Rattle.std.specs.Str.Parse.{digits_value}
use Rattle.std.proofs.lemmas.Bool.Decides.{nat_tests}
use Rattle.road_text.proofs.NumberLemmas.{OneDigitOn, digit_value-is, digits_value-small, number_of-wrong_length, number_of-stop, number_of-all, one_digit_on}
use Rattle.road_text.proofs.numbers.number.Goals as goal
use Rattle.road_text.proofs.numbers.number.Goals.{then-is_empty-via-then-is_empty, then-is_empty-via-else-is_empty+then-bytes-gt-MOST_DIGITS}

pub returns-then-is_empty : goal.returns-then-is_empty
returns-then-is_empty c = elim c.then-is_empty.branch [
  | then-is_empty-via-then-is_empty w ↦ sym (number_of-wrong_length c.args.bytes.now (inl (let h = w.if-is_empty.ensures in grind (arith, nat_tests))))
  | then-is_empty-via-else-is_empty+then-bytes-gt-MOST_DIGITS w ↦ sym (number_of-wrong_length c.args.bytes.now (inr (omega arith)))
]

pub returns-then-not-is_ascii_digit : goal.returns-then-not-is_ascii_digit
returns-then-not-is_ascii_digit c =
    let no : is_ascii_digit (get_or c.args.bytes.now c.loop-byte.byte-index 0) ≡ false = search rules in
    sym (number_of-stop c.args.bytes.now c.loop-byte.byte-index c.loop-byte-test.true no c.loop-byte.invariant.rest)

pub overflow_mul-value : goal.overflow_mul-value
overflow_mul-value c =
    let bs = c.args.bytes.now in
    let i = c.loop-byte.byte-index in
    let small : digits_value 10 (take i bs) < 10 ^ 18 = digits_value-small bs i (omega arith) (omega arith) c.loop-byte.invariant.digits in
    omega (arith, c.loop-byte.invariant.value)

pub overflow_add-value : goal.overflow_add-value
overflow_add-value c =
    let bs = c.args.bytes.now in
    let i = c.loop-byte.byte-index in
    let small : digits_value 10 (take i bs) < 10 ^ 18 = digits_value-small bs i (omega arith) (omega arith) c.loop-byte.invariant.digits in
    let d = digit_value-is (get_or bs i 0) (search rules) in
    omega (arith, c.loop-byte.invariant.value)

pub loop-byte-preserved : goal.loop-byte-preserved
loop-byte-preserved c =
    let bs = c.args.bytes.now in
    let i = c.loop-byte.byte-index in
    let yes : is_ascii_digit (get_or bs i 0) ≡ true = search rules in
    let on : OneDigitOn bs i (c.loop-byte.value * 10 + (get_or bs i 0 - 48)) = one_digit_on bs i c.loop-byte.value c.loop-byte-test.true yes c.loop-byte.invariant.value c.loop-byte.invariant.digits c.loop-byte.invariant.rest in
    record { value = ap (λ (n : ℕ). c.loop-byte.value * 10 + n) c.from.ensures ∙ on.value; digits = on.digits; rest = on.rest }

pub returns : goal.returns
returns c = sym (number_of-all c.args.bytes.now c.loop-byte.byte-index c.loop-byte.value (omega arith) (grind (arith, nat_tests)) (omega arith) c.loop-byte.invariant.rest c.loop-byte.invariant.value)
