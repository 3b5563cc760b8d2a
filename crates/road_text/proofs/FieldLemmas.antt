-- How the fields of a line begin.
use Rattle.std.proofs.Common.{◌≡◌, ℕ, ◌+◌, ◌<◌, ◌≤◌, true, false, cond, List, [], ◌∷◌, ◌++◌, length, get_or, drop, Some, None, refl, sym, ap, ◌∙◌, arith, ⊎_elim, ◌-◌}
use Rattle.std.specs.Prelude.{filter}
use Rattle.std.specs.List.{slice_split, AllByRecursion, between}
use Rattle.std.proofs.lemmas.List.{drop_more, drop_all, drop-drop, take-append-drop, append-nil}
use Rattle.std.proofs.lemmas.List.Edits.{between_more, length-between}
use Rattle.std.proofs.lemmas.Bool.{cases_lt, both_ways}
use Rattle.std.proofs.lemmas.List.Splits.{slice_split_at, slice_split_none, slice_split-cons_yes}
use Rattle.std.proofs.lemmas.List.Elements.{All-from_recursion, recursion_from_All, All-push}
use Rattle.road_text.specs.Fields.{is_blank, has_bytes, fields_of, first_byte, or_first}

pub fields_of-nil : fields_of [] ≡ []
unfolding fields_of
fields_of-nil = refl

pub first_byte-nil : first_byte [] ≡ None
unfolding first_byte
first_byte-nil = refl

pub first_byte-stop : (b : ℕ) (bs : List ℕ) → is_blank b ≡ false → first_byte (b ∷ bs) ≡ Some b
unfolding first_byte
first_byte-stop b bs e = rw e refl

pub first_byte-blank : (b : ℕ) (bs : List ℕ) → is_blank b ≡ true → first_byte (b ∷ bs) ≡ first_byte bs
unfolding first_byte
first_byte-blank b bs e = rw e refl

pub fields_of-blank : (b : ℕ) (bs : List ℕ) → is_blank b ≡ true → fields_of (b ∷ bs) ≡ fields_of bs
unfolding fields_of
fields_of-blank b bs e = ap (λ (pieces : List (List ℕ)). filter has_bytes pieces) (slice_split-cons_yes is_blank b bs e)

abbrev pub Passes : List ℕ → Type 0
Passes bs = AllByRecursion (λ b. is_blank b ≡ false) bs

abbrev keeps : List ℕ → List (List ℕ) → List (List ℕ)
keeps piece pieces = filter has_bytes (piece ∷ pieces)

keeps-is : (piece : List ℕ) (pieces : List (List ℕ)) → 0 < length piece → keeps piece pieces ≡ piece ∷ filter has_bytes pieces
keeps-is [] pieces h = absurd (omega arith)
keeps-is (b ∷ bs) pieces h = refl

pub fields_of-last : (piece : List ℕ) → 0 < length piece → Passes piece → fields_of piece ≡ piece ∷ []
unfolding fields_of
fields_of-last piece some h =
    ap (λ (pieces : List (List ℕ)). filter has_bytes pieces) (slice_split_none is_blank piece (All-from_recursion (λ b. is_blank b ≡ false) piece h)) ∙ keeps-is piece [] some

pub fields_of-field : (piece : List ℕ) (b : ℕ) (bs : List ℕ) → 0 < length piece → Passes piece → is_blank b ≡ true → fields_of (piece ++ b ∷ bs) ≡ piece ∷ fields_of bs
unfolding fields_of
fields_of-field piece b bs some h e =
    ap (λ (pieces : List (List ℕ)). filter has_bytes pieces) (slice_split_at is_blank piece b bs (All-from_recursion (λ b. is_blank b ≡ false) piece h) e) ∙ keeps-is piece (slice_split is_blank bs) some

-- a step over a blank leaves the fields of what follows
pub fields_of-passed : (line : List ℕ) (i : ℕ) → i < length line → is_blank (get_or line i 0) ≡ true → fields_of (drop (i + 1) line) ≡ fields_of (drop i line)
fields_of-passed line i lt e = sym (ap fields_of (drop_more line i 0 lt) ∙ fields_of-blank (get_or line i 0) (drop (i + 1) line) e)

pub first_byte-passed : (line : List ℕ) (i : ℕ) → i < length line → is_blank (get_or line i 0) ≡ true → first_byte (drop (i + 1) line) ≡ first_byte (drop i line)
first_byte-passed line i lt e = sym (ap first_byte (drop_more line i 0 lt) ∙ first_byte-blank (get_or line i 0) (drop (i + 1) line) e)

pub first_byte-at : (line : List ℕ) (i : ℕ) → i < length line → is_blank (get_or line i 0) ≡ false → first_byte (drop i line) ≡ Some (get_or line i 0)
first_byte-at line i lt e = ap first_byte (drop_more line i 0 lt) ∙ first_byte-stop (get_or line i 0) (drop (i + 1) line) e

pub fields_of-past : (line : List ℕ) (i : ℕ) → length line ≤ i → fields_of (drop i line) ≡ []
fields_of-past line i le = ap fields_of (drop_all i line le) ∙ fields_of-nil

pub first_byte-past : (line : List ℕ) (i : ℕ) → length line ≤ i → first_byte (drop i line) ≡ None
first_byte-past line i le = ap first_byte (drop_all i line le) ∙ first_byte-nil

-- one more byte of a field
pub Passes-more : (line : List ℕ) (at i : ℕ) → at ≤ i → i < length line → is_blank (get_or line i 0) ≡ false → Passes (between at i line) → Passes (between at (i + 1) line)
Passes-more line at i low lt e h =
    let P : ℕ → Type 0 = λ b. is_blank b ≡ false in
    rw (between_more line at i 0 low lt) (recursion_from_All P (between at i line ++ get_or line i 0 ∷ []) (All-push P (between at i line) (get_or line i 0) (All-from_recursion P (between at i line) h) e))

-- what stands from a field's first byte on
between-drop : (line : List ℕ) (from to : ℕ) → from ≤ to → drop from line ≡ between from to line ++ drop to line
between-drop line from to le = sym (take-append-drop (to - from) (drop from line)) ∙ ap (λ (rest : List ℕ). between from to line ++ rest) (drop-drop (to - from) from line ∙ ap (λ (n : ℕ). drop n line) (omega arith))

pub fields_of-found : (line : List ℕ) (from to : ℕ) → from < to → to ≤ length line → Passes (between from to line) → (to < length line → is_blank (get_or line to 0) ≡ true) → fields_of (drop from line) ≡ between from to line ∷ fields_of (drop to line)
fields_of-found line from to lt high h stops =
    let piece : List ℕ = between from to line in
    let some : 0 < length piece = omega (arith, length-between line from to) in
    let parts : drop from line ≡ piece ++ drop to line = between-drop line from to (omega arith) in
    ⊎_elim
    (λ (below : to < length line).
    let rest : drop to line ≡ get_or line to 0 ∷ drop (to + 1) line = drop_more line to 0 below in
    let blank : is_blank (get_or line to 0) ≡ true = stops below in
    ap fields_of (parts ∙ ap (λ (r : List ℕ). piece ++ r) rest) ∙ fields_of-field piece (get_or line to 0) (drop (to + 1) line) some h blank ∙ ap (λ (fs : List (List ℕ)). piece ∷ fs) (fields_of-passed line to below blank))
    (λ (past : length line ≤ to).
    ap fields_of (parts ∙ ap (λ (r : List ℕ). piece ++ r) (drop_all to line past) ∙ append-nil piece) ∙ fields_of-last piece some h ∙ ap (λ (fs : List (List ℕ)). piece ∷ fs) (sym (fields_of-past line to past)))
    (cases_lt to (length line))

pub fields_of-none : (line : List ℕ) (from to : ℕ) → from ≡ to → (from < length line → is_blank (get_or line from 0) ≡ false) → (to < length line → is_blank (get_or line to 0) ≡ true) → fields_of (drop from line) ≡ []
fields_of-none line from to same starts stops =
    ⊎_elim
    (λ (below : from < length line).
    let yes : is_blank (get_or line from 0) ≡ true = rw same (stops (omega arith)) in
    absurd (both_ways (is_blank (get_or line from 0)) (starts below) yes))
    (λ (past : length line ≤ from). fields_of-past line from past)
    (cases_lt from (length line))

-- a line in two parts
pub first_byte-append : (a b : List ℕ) → first_byte (a ++ b) ≡ or_first (first_byte a) (first_byte b)
unfolding first_byte
first_byte-append [] b = refl
first_byte-append (x ∷ xs) b =
    elim (is_blank x) as (λ t. cond t (first_byte (xs ++ b)) (Some x) ≡ or_first (cond t (first_byte xs) (Some x)) (first_byte b)) [ true ↦ first_byte-append xs b | false ↦ refl ]
