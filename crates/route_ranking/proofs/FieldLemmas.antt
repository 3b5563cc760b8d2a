-- The numbers of a text's fields, read one after another.
use Rattle.std.proofs.Common.{◌≡◌, ◌≢◌, ℕ, ◌+◌, ◌<◌, List, [], ◌∷◌, ◌++◌, Option, Some, None, length, get_or, take, drop, set, refl, sym, ap, ◌∙◌, arith}
use Rattle.std.specs.Prelude.{◌==◌}
use Rattle.std.specs.List.{slice_split}
use Rattle.std.proofs.lemmas.Bool.{ne_eqb}
use Rattle.std.proofs.lemmas.List.{take_more, take_more_set, take_all, take-append-drop, drop_more}
use Rattle.road_text.specs.Numbers.{canonical_of}
use Rattle.route_ranking.specs.Cursors.{with_number, all_numbers, cursor_with, of_eleven, cursor_of}

abbrev pub fields_at_dots : List ℕ → List (List ℕ)
fields_at_dots text = slice_split (λ b. b == 46) text

-- ---- the numbers of fields

pub all_numbers-nil : all_numbers [] ≡ Some []
unfolding all_numbers
all_numbers-nil = refl

-- two lists of numbers, where both are given
abbrev both_lists : Option (List ℕ) → Option (List ℕ) → Option (List ℕ)
both_lists None later = None
both_lists (Some ms) None = None
both_lists (Some ms) (Some ns) = Some (ms ++ ns)

both_lists-nil : (o : Option (List ℕ)) → both_lists (Some []) o ≡ o
both_lists-nil None = refl
both_lists-nil (Some ns) = refl

both_lists-none : (o : Option (List ℕ)) → both_lists o None ≡ None
both_lists-none None = refl
both_lists-none (Some ns) = refl

both_lists-with_number : (o : Option ℕ) (a b : Option (List ℕ)) → with_number o (both_lists a b) ≡ both_lists (with_number o a) b
both_lists-with_number None a b = refl
both_lists-with_number (Some n) None b = refl
both_lists-with_number (Some n) (Some ms) None = refl
both_lists-with_number (Some n) (Some ms) (Some ns) = refl

all_numbers-append : (xs ys : List (List ℕ)) → all_numbers (xs ++ ys) ≡ both_lists (all_numbers xs) (all_numbers ys)
unfolding all_numbers
all_numbers-append [] ys = sym (both_lists-nil (all_numbers ys))
all_numbers-append (x ∷ xs) ys =
    ap (λ (o : Option (List ℕ)). with_number (canonical_of x) o) (all_numbers-append xs ys)
    ∙ both_lists-with_number (canonical_of x) (all_numbers xs) (all_numbers ys)

all_numbers-one : (field : List ℕ) (n : ℕ) → canonical_of field ≡ Some n → all_numbers (field ∷ []) ≡ Some (n ∷ [])
unfolding all_numbers
all_numbers-one field n e = ap (λ (o : Option ℕ). with_number o (Some [])) e

all_numbers-wrong : (field : List ℕ) (fields : List (List ℕ)) → canonical_of field ≡ None → all_numbers (field ∷ fields) ≡ None
unfolding all_numbers
all_numbers-wrong field fields e = ap (λ (o : Option ℕ). with_number o (all_numbers fields)) e

length-with_number : (o : Option ℕ) (rest : Option (List ℕ)) (ns : List ℕ) (k : ℕ) → ((ms : List ℕ) → rest ≡ Some ms → length ms ≡ k) → with_number o rest ≡ Some ns → length ns ≡ k + 1
length-with_number None rest ns k h e = cc
length-with_number (Some n) None ns k h e = cc
length-with_number (Some n) (Some ms) ns k h e =
    let same : n ∷ ms ≡ ns = cc in
    omega (arith, h ms refl, ap length same)

length-all_numbers : (fields : List (List ℕ)) (ns : List ℕ) → all_numbers fields ≡ Some ns → length ns ≡ length fields
unfolding all_numbers
length-all_numbers [] ns e =
    let same : [] ≡ ns = cc in
    sym (ap length same)
length-all_numbers (x ∷ xs) ns e =
    omega (arith, length-with_number (canonical_of x) (all_numbers xs) ns (length xs) (length-all_numbers xs) e)

-- ---- one field after another

pub numbers_upto-more : (fields : List (List ℕ)) (ns field : List ℕ) (i n : ℕ) → i < length fields → i < length ns → field ≡ get_or fields i field → canonical_of field ≡ Some n → all_numbers (take i fields) ≡ Some (take i ns) → all_numbers (take (i + 1) fields) ≡ Some (take (i + 1) (set ns i n))
numbers_upto-more fields ns field i n lt room same number before =
    ap all_numbers (take_more fields i field lt ∙ ap (λ (f : List ℕ). take i fields ++ f ∷ []) (sym same))
    ∙ all_numbers-append (take i fields) (field ∷ [])
    ∙ ap (λ (o : Option (List ℕ)). both_lists o (all_numbers (field ∷ []))) before
    ∙ ap (λ (o : Option (List ℕ)). both_lists (Some (take i ns)) o) (all_numbers-one field n number)
    ∙ ap (λ (l : List ℕ). Some l) (sym (take_more_set ns i n room))

numbers-wrong : (fields : List (List ℕ)) (field : List ℕ) (i : ℕ) → i < length fields → field ≡ get_or fields i field → canonical_of field ≡ None → all_numbers fields ≡ None
numbers-wrong fields field i lt same wrong =
    ap all_numbers (sym (take-append-drop i fields) ∙ ap (λ (fs : List (List ℕ)). take i fields ++ fs) (drop_more fields i field lt ∙ ap (λ (f : List ℕ). f ∷ drop (i + 1) fields) (sym same)))
    ∙ all_numbers-append (take i fields) (field ∷ drop (i + 1) fields)
    ∙ ap (λ (o : Option (List ℕ)). both_lists (all_numbers (take i fields)) o) (all_numbers-wrong field (drop (i + 1) fields) wrong)
    ∙ both_lists-none (all_numbers (take i fields))

-- ---- the cursor of the numbers

of_eleven-other : (o : Option (List ℕ)) → ((ns : List ℕ) → o ≡ Some ns → length ns ≢ 11) → of_eleven o ≡ None
of_eleven-other None h = refl
of_eleven-other (Some ns) h = rw (ne_eqb (length ns) 11 (h ns refl)) refl

pub cursor_of-wrong : (text field : List ℕ) (i : ℕ) → i < length (fields_at_dots text) → field ≡ get_or (fields_at_dots text) i field → canonical_of field ≡ None → cursor_of text ≡ None
unfolding cursor_of
cursor_of-wrong text field i lt same wrong = ap of_eleven (numbers-wrong (fields_at_dots text) field i lt same wrong)

pub cursor_of-other_count : (text : List ℕ) → length (fields_at_dots text) ≢ 11 → cursor_of text ≡ None
unfolding cursor_of
cursor_of-other_count text other =
    of_eleven-other (all_numbers (fields_at_dots text))
    (λ ns e eleven. other (sym (length-all_numbers (fields_at_dots text) ns e) ∙ eleven))

pub cursor_of-eleven : (text ns : List ℕ) → all_numbers (fields_at_dots text) ≡ Some ns → length ns ≡ 11 → cursor_of text ≡ Some (cursor_with ns)
unfolding cursor_of
cursor_of-eleven text ns e eleven = ap of_eleven e ∙ rw eleven refl

-- all fields were read
pub cursor_of-all : (text ns : List ℕ) (i : ℕ) → length (fields_at_dots text) ≡ i → length ns ≡ 11 → i ≡ 11 → all_numbers (take i (fields_at_dots text)) ≡ Some (take i ns) → cursor_of text ≡ Some (cursor_with ns)
cursor_of-all text ns i past eleven same e =
    cursor_of-eleven text ns
    (ap all_numbers (sym (take_all i (fields_at_dots text) (omega arith))) ∙ e ∙ ap (λ (l : List ℕ). Some l) (take_all i ns (omega arith)))
    eleven
