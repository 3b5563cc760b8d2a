-- What lines ask, up to one that ends the run.
use Rattle.std.proofs.Common.{◌≡◌, ℕ, ◌+◌, ◌-◌, ◌<◌, ◌≤◌, true, false, Bool, cond, leb, List, [], ◌∷◌, ◌++◌, length, take, zero, suc, refl, sym, ap, ◌∙◌, arith, ⊎_elim}
use Rattle.std.proofs.lemmas.Bool.{cases_lt}
use Rattle.std.proofs.lemmas.Bool.Decides.{nat_tests}
use Rattle.road_text.specs.Lines.{lines_of, whole_lines}
use Rattle.road_text.specs.Progress.{IsBeyond}
use Rattle.line_front.specs.declared.requests.Parsed.{Parsed}
use Rattle.route_server.specs.Asking.{asked_by, asked_in, is_quit, lines_within, most_input, NoQuit}

pub asked_in-line : (line : List ℕ) (lines : List (List ℕ)) → is_quit (asked_by line) ≡ false → asked_in (line ∷ lines) ≡ asked_by line ∷ asked_in lines
unfolding asked_in
asked_in-line line lines e = rw e refl

pub asked_in-quit : (line : List ℕ) (lines : List (List ℕ)) → is_quit (asked_by line) ≡ true → asked_in (line ∷ lines) ≡ []
unfolding asked_in
asked_in-quit line lines e = rw e refl

pub asked_in-nothing : asked_in [] ≡ []
unfolding asked_in
asked_in-nothing = refl

-- lines that end nothing, and then others
pub asked_in-append : (before lines : List (List ℕ)) → NoQuit before → asked_in (before ++ lines) ≡ asked_in before ++ asked_in lines
asked_in-append [] lines h = ap (λ (x : List Parsed). x ++ asked_in lines) (sym asked_in-nothing)
asked_in-append (line ∷ before) lines h =
    asked_in-line line (before ++ lines) h.0
    ∙ ap (λ (x : List Parsed). asked_by line ∷ x) (asked_in-append before lines h.1)
    ∙ ap (λ (x : List Parsed). x ++ asked_in lines) (sym (asked_in-line line before h.0))

pub asked_in-push : (before : List (List ℕ)) (line : List ℕ) → NoQuit before → is_quit (asked_by line) ≡ false → asked_in (before ++ line ∷ []) ≡ asked_in before ++ asked_by line ∷ []
asked_in-push before line h e =
    asked_in-append before (line ∷ []) h
    ∙ ap (λ (x : List Parsed). asked_in before ++ x) (asked_in-line line [] e ∙ ap (λ (x : List Parsed). asked_by line ∷ x) asked_in-nothing)

nothing_more : (xs : List Parsed) → xs ++ [] ≡ xs
nothing_more [] = refl
nothing_more (x ∷ xs) = ap (λ (ys : List Parsed). x ∷ ys) (nothing_more xs)

-- after a line that ends the run nothing is asked
pub asked_in-cut : (before more : List (List ℕ)) (line : List ℕ) → NoQuit before → is_quit (asked_by line) ≡ true → asked_in ((before ++ line ∷ []) ++ more) ≡ asked_in before
asked_in-cut [] more line h e = asked_in-quit line more e ∙ sym asked_in-nothing
asked_in-cut (b ∷ before) more line h e =
    asked_in-line b ((before ++ line ∷ []) ++ more) h.0
    ∙ ap (λ (x : List Parsed). asked_by b ∷ x) (asked_in-cut before more line h.1 e)
    ∙ sym (asked_in-line b before h.0)

pub NoQuit-push : (before : List (List ℕ)) (line : List ℕ) → NoQuit before → is_quit (asked_by line) ≡ false → NoQuit (before ++ line ∷ [])
NoQuit-push [] line h e = (e, tt)
NoQuit-push (b ∷ before) line h e = (h.0, NoQuit-push before line h.1 e)

pub quits : (before more : List (List ℕ)) (line : List ℕ) → is_quit (asked_by line) ≡ true → NoQuit ((before ++ line ∷ []) ++ more) → ⊥
quits [] more line e h = (let f : is_quit (asked_by line) ≡ false = h.0 in let g : true ≡ false = sym e ∙ f in cc)
quits (b ∷ before) more line e h = quits before more line e h.1

-- ---- the lines within the limit

short_test : (n m : ℕ) → n ≤ m → leb n m ≡ true
short_test n m h = grind (arith, nat_tests)

long_test : (n m : ℕ) → m < n → leb n m ≡ false
long_test n m h = grind (arith, nat_tests)

pub within_short : (text : List ℕ) → length text ≤ most_input → lines_within text ≡ lines_of text
within_short text h = ap (λ (b : Bool). cond {A = List (List ℕ)} b (lines_of text) (whole_lines (take most_input text))) (short_test (length text) most_input h)

pub within_long : (text : List ℕ) → most_input < length text → lines_within text ≡ whole_lines (take most_input text)
within_long text h = ap (λ (b : Bool). cond {A = List (List ℕ)} b (lines_of text) (whole_lines (take most_input text))) (long_test (length text) most_input h)

-- the first bytes of a text that begins with these
take_beyond : (given rest : List ℕ) (n : ℕ) → length given ≤ n → take n (given ++ rest) ≡ given ++ take (n - length given) rest
take_beyond [] rest n h = ap (λ (k : ℕ). take k rest) (let e : n ≡ n - 0 = omega arith in e)
take_beyond (b ∷ given) rest zero h = absurd (omega arith)
take_beyond (b ∷ given) rest (suc n) h =
    ap (λ (x : List ℕ). b ∷ x) (take_beyond given rest n (omega arith))
    ∙ ap (λ (k : ℕ). b ∷ (given ++ take k rest)) (let e : n - length given ≡ suc n - suc (length given) = omega arith in e)

-- a text that goes on after these lines has them first, within the limit
pub within_beyond : (spare : ℕ) (text rest : List ℕ) (before : List (List ℕ)) → IsBeyond most_input spare text rest before → (more : List (List ℕ)) × (lines_within text ≡ before ++ more)
within_beyond spare text rest before at' =
    ⊎_elim
    (λ (long : most_input < length text). (
      whole_lines (take (most_input - length at'.given) rest),
      within_long text long
          ∙ ap (λ (t : List ℕ). whole_lines (take most_input t)) at'.is
          ∙ ap whole_lines (take_beyond at'.given rest most_input (let c : length at'.given + spare ≡ most_input = at'.count in omega arith))
          ∙ at'.whole (take (most_input - length at'.given) rest),
    ))
    (λ (short : length text ≤ most_input). (
      lines_of rest,
      within_short text short ∙ ap lines_of at'.is ∙ at'.lines rest,
    ))
    (cases_lt most_input (length text))
