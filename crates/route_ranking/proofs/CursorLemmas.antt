-- The laws of cursors as texts.
use Rattle.std.proofs.Common.{◌≡◌, ℕ, ◌+◌, ◌*◌, ◌^◌, ◌<◌, ◌≤◌, true, false, List, [], ◌∷◌, ◌++◌, map, length, get_or, Option, Some, None, refl, sym, ap, subst, ◌∙◌, arith, lit<}
use Rattle.std.specs.Prelude.{◌==◌, decimal, All}
use Rattle.std.specs.List.{AllByRecursion, flat_map, join_with_byte}
use Rattle.std.specs.Char.{is_ascii_digit}
use Rattle.std.specs.Str.{all_ascii_digits}
use Rattle.std.proofs.lemmas.Bool.{and_parts, eqb-true}
use Rattle.std.proofs.lemmas.Bool.Decides.{nat_tests}
use Rattle.std.proofs.lemmas.Fmt.{decimal_nonempty, length-decimal-le}
use Rattle.std.proofs.lemmas.List.{length-append}
use Rattle.std.proofs.lemmas.List.Elements.{All-from_recursion, recursion_from_All}
use Rattle.std.proofs.lemmas.List.FromFn.{fill_by_all}
use Rattle.std.proofs.lemmas.List.Splits.{slice_split_at, slice_split_none, join_with_byte-slice_split}
use Rattle.std.proofs.lemmas.Option.{cond_some}
use Rattle.road_model.specs.declared.request.Cursor.{Cursor}
use Rattle.road_text.specs.Fields.{is_blank}
use Rattle.road_text.specs.Numbers.{canonical_of}
use Rattle.route_ranking.specs.Cursors.{numbers_of, cursor_text, IsSmall, with_number, all_numbers, cursor_with, of_eleven, cursor_of}
use Rattle.route_ranking.proofs.DecimalLemmas.{all_ascii_digits-decimal, canonical_of-decimal, IsSpelling, IsSpelling-from_read}
use Rattle.route_ranking.proofs.FieldLemmas.{fields_at_dots, cursor_of-eleven}
use Rattle.route_ranking.proofs.TextLemmas.{dotted, others_of, text_with-others}

-- a number whose text is in the grammar
abbrev pub IsSmallNumber : ℕ → Type 0
IsSmallNumber n = n < 10 ^ 19

-- a byte that is neither a dot nor a blank
record IsPlain (b : ℕ) : Type 0 where
  dotless : (b == 46) ≡ false
  unblank : is_blank b ≡ false

IsPlain-digit : (b : ℕ) → is_ascii_digit b ≡ true → IsPlain b
IsPlain-digit b e = record { dotless = grind (arith, nat_tests); unblank = grind (arith, nat_tests) }

IsPlain-digits : (ds : List ℕ) → all_ascii_digits ds ≡ true → AllByRecursion IsPlain ds
IsPlain-digits [] h = tt
IsPlain-digits (d ∷ ds) h =
    let both = and_parts (is_ascii_digit d) (all_ascii_digits ds) h in
    (IsPlain-digit d both.0, IsPlain-digits ds both.1)

-- the bytes of a number
record IsField (field : List ℕ) : Type 0 where
  plain : AllByRecursion IsPlain field
  some : 0 < length field
  few : length field ≤ 19

IsField-decimal : (n : ℕ) → n < 10 ^ 19 → IsField (decimal n)
IsField-decimal n small =
    let fits : n < 2 ^ 64 = omega arith in
    record {
      plain = IsPlain-digits (decimal n) (all_ascii_digits-decimal n fits);
      some = decimal_nonempty n fits;
      few = length-decimal-le 19 n (lit< tt) small fits;
    }

IsField-decimals : (ns : List ℕ) → AllByRecursion IsSmallNumber ns → AllByRecursion IsField (map decimal ns)
IsField-decimals [] h = tt
IsField-decimals (n ∷ ns) h = (IsField-decimal n h.0, IsField-decimals ns h.1)

-- ---- a written cursor is read

dotless : (bs : List ℕ) → AllByRecursion IsPlain bs → AllByRecursion (λ b. (b == 46) ≡ false) bs
dotless [] h = tt
dotless (b ∷ bs) h = (h.0.dotless, dotless bs h.1)

fields_at_dots-join : (field : List ℕ) (fields : List (List ℕ)) → IsField field → AllByRecursion IsField fields → fields_at_dots (join_with_byte 46 (field ∷ fields)) ≡ field ∷ fields
fields_at_dots-join field [] h k =
    slice_split_none (λ b. b == 46) field (All-from_recursion (λ b. (b == 46) ≡ false) field (dotless field h.plain))
fields_at_dots-join field (next ∷ fields) h k =
    slice_split_at (λ b. b == 46) field 46 (join_with_byte 46 (next ∷ fields)) (All-from_recursion (λ b. (b == 46) ≡ false) field (dotless field h.plain)) refl
    ∙ ap (λ (fs : List (List ℕ)). field ∷ fs) (fields_at_dots-join next fields k.0 k.1)

all_numbers-decimals : (ns : List ℕ) → AllByRecursion IsSmallNumber ns → all_numbers (map decimal ns) ≡ Some ns
unfolding all_numbers
all_numbers-decimals [] h = refl
all_numbers-decimals (n ∷ ns) h =
    ap (λ (o : Option ℕ). with_number o (all_numbers (map decimal ns))) (canonical_of-decimal n h.0)
    ∙ ap (λ (o : Option (List ℕ)). with_number (Some n) o) (all_numbers-decimals ns h.1)

small_numbers : (c : Cursor) → IsSmall c → AllByRecursion IsSmallNumber (numbers_of c)
small_numbers c small = recursion_from_All IsSmallNumber (numbers_of c) small

fields_of_cursor : (c : Cursor) → IsSmall c → AllByRecursion IsField (map decimal (numbers_of c))
fields_of_cursor c small = IsField-decimals (numbers_of c) (small_numbers c small)

pub cursor_of-cursor_text : (c : Cursor) → IsSmall c → cursor_of (cursor_text c) ≡ Some c
cursor_of-cursor_text c small =
    let fields = fields_of_cursor c small in
    cursor_of-eleven (cursor_text c) (numbers_of c)
    (ap all_numbers (fields_at_dots-join (decimal c.version) (map decimal (others_of c)) fields.0 fields.1) ∙ all_numbers-decimals (numbers_of c) (small_numbers c small))
    refl

-- ---- a cursor that was read is written as it was

record AreSpellings (fields : List (List ℕ)) (ns : List ℕ) : Type 0 where
  fields_are : fields ≡ map decimal ns
  small : AllByRecursion IsSmallNumber ns

AreSpellings-cons : (field : List ℕ) (fields : List (List ℕ)) (first : Option ℕ) (rest : Option (List ℕ)) (ns : List ℕ) → ((n : ℕ) → first ≡ Some n → IsSpelling field n) → ((ms : List ℕ) → rest ≡ Some ms → AreSpellings fields ms) → with_number first rest ≡ Some ns → AreSpellings (field ∷ fields) ns
AreSpellings-cons field fields None rest ns one more e = absurd (cc)
AreSpellings-cons field fields (Some n) None ns one more e = absurd (cc)
AreSpellings-cons field fields (Some n) (Some ms) ns one more e =
    let same : n ∷ ms ≡ ns = cc in
    let first = one n refl in
    let later = more ms refl in
    subst (λ (l : List ℕ). AreSpellings (field ∷ fields) l) same (record {
      fields_are = ap (λ (f : List ℕ). f ∷ fields) first.field_is ∙ ap (λ (fs : List (List ℕ)). decimal n ∷ fs) later.fields_are;
      small = (first.small, later.small);
    })

AreSpellings-from_read : (fields : List (List ℕ)) (ns : List ℕ) → all_numbers fields ≡ Some ns → AreSpellings fields ns
unfolding all_numbers
AreSpellings-from_read [] ns e =
    let same : [] ≡ ns = cc in
    subst (λ (l : List ℕ). AreSpellings [] l) same (record { fields_are = refl; small = tt })
AreSpellings-from_read (field ∷ fields) ns e =
    AreSpellings-cons field fields (canonical_of field) (all_numbers fields) ns (IsSpelling-from_read field) (AreSpellings-from_read fields) e

numbers_of-cursor_with : (ns : List ℕ) → length ns ≡ 11 → ns ≡ numbers_of (cursor_with ns)
numbers_of-cursor_with ns eleven = fill_by_all (λ k. get_or ns k 0) ns 11 0 eleven (λ k lt. refl)

made_of : (o : Option (List ℕ)) (c : Cursor) → of_eleven o ≡ Some c → (ns : List ℕ) × (o ≡ Some ns) × (ns ≡ numbers_of c)
made_of None c e = absurd (cc)
made_of (Some ns) c e =
    let parts = cond_some (length ns == 11) (cursor_with ns) c e in
    (ns, refl, numbers_of-cursor_with ns (eqb-true (length ns) 11 parts.0) ∙ ap numbers_of parts.1)

pub record IsTextOf (text : List ℕ) (c : Cursor) : Type 0 where
  pub spelling : text ≡ cursor_text c
  pub small : IsSmall c

pub IsTextOf-from_read : (text : List ℕ) (c : Cursor) → cursor_of text ≡ Some c → IsTextOf text c
unfolding cursor_of
IsTextOf-from_read text c e =
    let (ns, read, same) = made_of (all_numbers (fields_at_dots text)) c e in
    let spelled = AreSpellings-from_read (fields_at_dots text) ns read in
    record {
      spelling = sym (join_with_byte-slice_split 46 text) ∙ ap (λ (fs : List (List ℕ)). join_with_byte 46 fs) (spelled.fields_are ∙ ap (λ (l : List ℕ). map decimal l) same);
      small = subst (λ (l : List ℕ). All IsSmallNumber l) same (All-from_recursion IsSmallNumber ns spelled.small);
    }

-- ---- the text as a field of a line

unblank : (bs more : List ℕ) → AllByRecursion IsPlain bs → AllByRecursion (λ b. is_blank b ≡ false) more → AllByRecursion (λ b. is_blank b ≡ false) (bs ++ more)
unblank [] more h k = k
unblank (b ∷ bs) more h k = (h.0.unblank, unblank bs more h.1 k)

unblank_all : (bs : List ℕ) → AllByRecursion IsPlain bs → AllByRecursion (λ b. is_blank b ≡ false) bs
unblank_all [] h = tt
unblank_all (b ∷ bs) h = (h.0.unblank, unblank_all bs h.1)

unblank_join : (field : List ℕ) (fields : List (List ℕ)) → IsField field → AllByRecursion IsField fields → AllByRecursion (λ b. is_blank b ≡ false) (join_with_byte 46 (field ∷ fields))
unblank_join field [] h k = unblank_all field h.plain
unblank_join field (next ∷ fields) h k = unblank field (46 ∷ join_with_byte 46 (next ∷ fields)) h.plain (refl, unblank_join next fields k.0 k.1)

length-join : (field : List ℕ) (fields : List (List ℕ)) → IsField field → AllByRecursion IsField fields → length (join_with_byte 46 (field ∷ fields)) ≤ 19 + 20 * length fields
length-join field [] h k = (let few = h.few in omega arith)
length-join field (next ∷ fields) h k =
    let few = h.few in
    let later = length-join next fields k.0 k.1 in
    omega (arith, length-append field (46 ∷ join_with_byte 46 (next ∷ fields)))

-- no byte of a cursor's text is a blank
pub cursor_text-no_blank : (c : Cursor) → IsSmall c → AllByRecursion (λ b. is_blank b ≡ false) (cursor_text c)
cursor_text-no_blank c small =
    let fields = fields_of_cursor c small in
    unblank_join (decimal c.version) (map decimal (others_of c)) fields.0 fields.1

pub length-cursor_text-le : (c : Cursor) → IsSmall c → length (cursor_text c) ≤ 219
length-cursor_text-le c small =
    let fields = fields_of_cursor c small in
    length-join (decimal c.version) (map decimal (others_of c)) fields.0 fields.1

pub cursor_text-nonempty : (c : Cursor) → IsSmall c → 0 < length (cursor_text c)
cursor_text-nonempty c small =
    let fields = fields_of_cursor c small in
    let some = fields.0.some in
    omega (arith, length-append (decimal c.version) (flat_map dotted (others_of c)), ap length (text_with-others c))
