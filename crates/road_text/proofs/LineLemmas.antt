-- How a text goes on after a line of it.
use Rattle.std.proofs.Common.{◌≡◌, ◌≢◌, ℕ, ◌+◌, ◌-◌, ◌<◌, ◌≤◌, List, [], ◌∷◌, ◌++◌, length, map, get_or, drop, take, Option, Some, None, refl, sym, ap, ◌∙◌, arith, ⊎_elim, subst, take-add, inl, inr}
use Rattle.std.specs.List.{onto_first}
use Rattle.std.proofs.lemmas.Bool.{ne_eqb}
use Rattle.std.proofs.lemmas.List.Elements.{All-from_recursion, recursion_from_All, All-append}
use Rattle.memchr.specs.Find.{Nowhere, NoneBefore, Passes, is_byte}
use Rattle.std.proofs.lemmas.List.{get_or_default, get_or-drop, get_or-take, length-take-le, length-drop, take-append-drop, take_all, drop_more, drop_all}
use Rattle.std.proofs.lemmas.Bool.{eq-eqb, eqb-true, cases_eq, cases_lt}
use Rattle.road_text.specs.Filling.{IsFeedAt}
use Rattle.road_text.specs.Fields.{first_byte, or_first}
use Rattle.road_text.proofs.FieldLemmas.{first_byte-append, first_byte-stop}
use Rattle.road_text.specs.Reader.{IsFirstOf}
use Rattle.road_text.specs.Lines.{raw_lines, whole_raw_lines, onto_whole, without_return, lines_of, whole_lines, HasNoFeed}

pub raw_lines-line : (raw rest : List ℕ) → HasNoFeed raw → raw_lines (raw ++ 10 ∷ rest) ≡ raw ∷ raw_lines rest
unfolding raw_lines
raw_lines-line [] rest h = refl
raw_lines-line (b ∷ bs) rest h =
    rw (ne_eqb b 10 h.0) (ap (λ (pieces : List (List ℕ)). onto_first b pieces) (raw_lines-line bs rest h.1))

pub raw_lines-last : (raw : List ℕ) → HasNoFeed raw → 0 < length raw → raw_lines raw ≡ raw ∷ []
unfolding raw_lines
raw_lines-last [] h some = absurd (omega arith)
raw_lines-last (b ∷ []) h some = rw (ne_eqb b 10 h.0) refl
raw_lines-last (b ∷ c ∷ bs) h some =
    let later : raw_lines (c ∷ bs) ≡ (c ∷ bs) ∷ [] = raw_lines-last (c ∷ bs) h.1 (omega arith) in
    rw (ne_eqb b 10 h.0) (ap (λ (pieces : List (List ℕ)). onto_first b pieces) later)

pub whole_raw_lines-line : (raw rest : List ℕ) → HasNoFeed raw → whole_raw_lines (raw ++ 10 ∷ rest) ≡ raw ∷ whole_raw_lines rest
unfolding whole_raw_lines
whole_raw_lines-line [] rest h = refl
whole_raw_lines-line (b ∷ bs) rest h =
    rw (ne_eqb b 10 h.0) (ap (λ (pieces : List (List ℕ)). onto_whole b pieces) (whole_raw_lines-line bs rest h.1))

pub whole_raw_lines-none : (raw : List ℕ) → HasNoFeed raw → whole_raw_lines raw ≡ []
unfolding whole_raw_lines
whole_raw_lines-none [] h = refl
whole_raw_lines-none (b ∷ bs) h =
    rw (ne_eqb b 10 h.0) (ap (λ (pieces : List (List ℕ)). onto_whole b pieces) (whole_raw_lines-none bs h.1))

-- a line with its line feed is the first of the lines
pub lines_of-line : (raw rest : List ℕ) → HasNoFeed raw → lines_of (raw ++ 10 ∷ rest) ≡ without_return raw ∷ lines_of rest
unfolding lines_of
lines_of-line raw rest h = ap (λ (pieces : List (List ℕ)). map without_return pieces) (raw_lines-line raw rest h)

pub whole_lines-line : (raw rest : List ℕ) → HasNoFeed raw → whole_lines (raw ++ 10 ∷ rest) ≡ without_return raw ∷ whole_lines rest
unfolding whole_lines
whole_lines-line raw rest h = ap (λ (pieces : List (List ℕ)). map without_return pieces) (whole_raw_lines-line raw rest h)

pub lines_of-last : (raw : List ℕ) → HasNoFeed raw → 0 < length raw → lines_of raw ≡ without_return raw ∷ []
unfolding lines_of
lines_of-last raw h some = ap (λ (pieces : List (List ℕ)). map without_return pieces) (raw_lines-last raw h some)

pub whole_lines-none : (raw : List ℕ) → HasNoFeed raw → whole_lines raw ≡ []
unfolding whole_lines
whole_lines-none raw h = ap (λ (pieces : List (List ℕ)). map without_return pieces) (whole_raw_lines-none raw h)

pub lines_of-nil : lines_of [] ≡ []
unfolding lines_of raw_lines
lines_of-nil = refl

pub HasNoFeed-append : (a b : List ℕ) → HasNoFeed a → HasNoFeed b → HasNoFeed (a ++ b)
HasNoFeed-append a b h k =
    let P : ℕ → Type 0 = λ b. b ≢ 10 in
    recursion_from_All P (a ++ b) (All-append P a b (All-from_recursion P a h) (All-from_recursion P b k))

-- what a search for the byte tells
pub HasNoFeed-from_nowhere : (hay : List ℕ) (n : ℕ) → n ≤ length hay → Nowhere (Passes (is_byte 10) hay) 0 n → HasNoFeed (take n hay)
HasNoFeed-from_nowhere hay n le none =
    let P : ℕ → Type 0 = λ b. b ≢ 10 in
    recursion_from_All P (take n hay) (λ k d lt.
    let below : k < n = omega (arith, length-take-le n hay le) in
    λ e. none k (omega arith) below (eq-eqb (get_or hay k 0) 10 (get_or_default hay k 0 d (omega arith) ∙ sym (get_or-take n hay k d below) ∙ e)))

-- a prefix without a feed, and a rest without one
pub HasNoFeed-beyond : (bytes : List ℕ) (from n : ℕ) → from + n ≤ length bytes → HasNoFeed (take from bytes) → HasNoFeed (take n (drop from bytes)) → HasNoFeed (take (from + n) bytes)
HasNoFeed-beyond bytes from n le prefix later =
    rw (take-add from n bytes) (HasNoFeed-append (take from bytes) (take n (drop from bytes)) prefix later)

pub find_feed-none : (bytes : List ℕ) (from : ℕ) → from ≤ length bytes → HasNoFeed (take from bytes) → Nowhere (Passes (is_byte 10) (drop from bytes)) 0 (length (drop from bytes)) → HasNoFeed bytes
find_feed-none bytes from le prefix none =
    let rest : List ℕ = drop from bytes in
    let later : HasNoFeed rest = subst (λ (r : List ℕ). HasNoFeed r) (take_all (length rest) rest (omega arith)) (HasNoFeed-from_nowhere rest (length rest) (omega arith) none) in
    subst (λ (r : List ℕ). HasNoFeed r) (take-append-drop from bytes) (HasNoFeed-append (take from bytes) rest prefix later)

pub find_feed-some : (bytes : List ℕ) (from k : ℕ) → from ≤ length bytes → HasNoFeed (take from bytes) → NoneBefore (Passes (is_byte 10) (drop from bytes)) 0 (length (drop from bytes)) k → Passes (is_byte 10) (drop from bytes) k → IsFeedAt bytes (from + k)
find_feed-some bytes from k le prefix none hit =
    let lt : k < length (drop from bytes) = none.high in
    record {
      within = omega (arith, length-drop from bytes);
      before = HasNoFeed-beyond bytes from k (omega (arith, length-drop from bytes)) prefix (HasNoFeed-from_nowhere (drop from bytes) k (omega arith) none.before);
      feed = sym (get_or-drop from bytes k 0) ∙ eqb-true (get_or (drop from bytes) k 0) 10 hit;
    }

pub without_return-return : (raw : List ℕ) → get_or raw (length raw - 1) 0 ≡ 13 → without_return raw ≡ take (length raw - 1) raw
unfolding without_return
without_return-return raw e = rw e refl

pub without_return-plain : (raw : List ℕ) → (get_or raw (length raw - 1) 0 ≡ 13 → ⊥) → without_return raw ≡ raw
unfolding without_return
without_return-plain raw ne = rw (ne_eqb (get_or raw (length raw - 1) 0) 13 ne) refl

pub without_return-nil : (raw : List ℕ) → length raw ≡ 0 → without_return raw ≡ raw
without_return-nil [] e = without_return-plain [] (λ f. omega arith)
without_return-nil (b ∷ bs) e = absurd (omega arith)

pub without_return-length : (raw : List ℕ) → length raw ≤ length (without_return raw) + 1
without_return-length raw =
    ⊎_elim
    (λ (e : get_or raw (length raw - 1) 0 ≡ 13). omega (arith, ap length (without_return-return raw e), length-take-le (length raw - 1) raw (omega arith)))
    (λ (ne : get_or raw (length raw - 1) 0 ≡ 13 → ⊥). omega (arith, ap length (without_return-plain raw ne)))
    (cases_eq (get_or raw (length raw - 1) 0) 13)

-- bytes up to their first line feed, the feed, and what is after it
pub feed-parts : (bytes : List ℕ) (k : ℕ) → IsFeedAt bytes k → bytes ≡ take k bytes ++ 10 ∷ drop (k + 1) bytes
feed-parts bytes k at' =
    sym (take-append-drop k bytes) ∙ ap (λ (r : List ℕ). take k bytes ++ r) (drop_more bytes k 0 at'.within ∙ ap (λ (b : ℕ). b ∷ drop (k + 1) bytes) at'.feed)

or_return : (first : Option ℕ) → IsFirstOf (or_first first (Some 13)) first
or_return None = record { cases = inr (refl, refl) }
or_return (Some b) = record { cases = inl refl }

pub first_byte-without_return : (raw : List ℕ) → IsFirstOf (first_byte raw) (first_byte (without_return raw))
first_byte-without_return raw =
    let n : ℕ = length raw - 1 in
    let S : Option ℕ → Option ℕ → Type 0 = IsFirstOf in
    ⊎_elim
    (λ (e : get_or raw n 0 ≡ 13).
    ⊎_elim
    (λ (some : 0 < length raw).
    let parts : raw ≡ take n raw ++ 13 ∷ [] = sym (take-append-drop n raw) ∙ ap (λ (r : List ℕ). take n raw ++ r) (drop_more raw n 0 (omega arith) ∙ ap (λ (r : List ℕ). get_or raw n 0 ∷ r) (drop_all (n + 1) raw (omega arith)) ∙ ap (λ (b : ℕ). b ∷ []) e) in
    let whole : first_byte raw ≡ or_first (first_byte (take n raw)) (Some 13) = ap first_byte parts ∙ first_byte-append (take n raw) (13 ∷ []) ∙ ap (or_first (first_byte (take n raw))) (first_byte-stop 13 [] refl) in
    subst (λ (o : Option ℕ). IsFirstOf o (first_byte (without_return raw))) (sym whole) (subst (λ (r : List ℕ). IsFirstOf (or_first (first_byte (take n raw)) (Some 13)) (first_byte r)) (sym (without_return-return raw e)) (or_return (first_byte (take n raw)))))
    (λ (none : length raw ≤ 0).
    record { cases = inl (ap first_byte (sym (without_return-nil raw (omega arith)))) })
    (cases_lt 0 (length raw)))
    (λ (ne : get_or raw n 0 ≡ 13 → ⊥).
    record { cases = inl (ap first_byte (sym (without_return-plain raw ne))) })
    (cases_eq (get_or raw n 0) 13)
