-- How bytes are cut at a separator.
use Rattle.std.proofs.Common.{◌≡◌, ℕ, ◌+◌, ◌-◌, ◌<◌, ◌≤◌, Bool, true, false, cond, ltb, List, [], ◌∷◌, ◌++◌, length, take, drop, Option, Some, None, Err, refl, sym, ap, ◌∙◌, ⊎_elim, arith, append_assoc}
use Rattle.std.specs.Prelude.{◌==◌, not}
use Rattle.std.specs.List.{position, position_or_len, slice_split, onto_first}
use Rattle.std.proofs.lemmas.Bool.{cases_lt, lt-ltb, ltb-true}
use Rattle.std.proofs.lemmas.List.{append-nil, take_all, length-drop}
use Rattle.std.proofs.lemmas.List.Splits.{slice_split_first}
use Rattle.std.proofs.lemmas.Option.{cond_some, none-some}
use Rattle.std.specs.Borrow.{Bor}
use Rattle.road_text.specs.Numbers.{canonical_of}
use Rattle.certificate_text.specs.declared.line.Refusal.{Refusal}
use Rattle.certificate_text.specs.declared.line.Refusal.TheVariants.{Wrong, NoMemory}
use Rattle.certificate_text.specs.Words.{◌>>=◌, Gives, parts_at, left, closed, numbers_in}

uncut : {X : Type 0} (p : X → Bool) (xs : List X) → length xs ≤ position_or_len p xs → slice_split p xs ≡ xs ∷ []
uncut p [] past = refl
uncut {X} p (x ∷ xs) past =
    let Cut : Bool → Type 0 = λ t. length (x ∷ xs) ≤ cond (not t) (1 + position_or_len p xs) 0 → cond t ([] ∷ slice_split p xs) (onto_first x (slice_split p xs)) ≡ (x ∷ xs) ∷ [] in
    (elim (p x) as Cut [
      | true ↦ λ h. absurd (omega arith)
      | false ↦ λ h. ap (onto_first x) (uncut p xs (omega arith))
    ]) past

pub parts_at-none : (c : ℕ) (bytes : List ℕ) → position (λ b. b == c) bytes ≡ None → parts_at c bytes ≡ bytes ∷ []
parts_at-none c bytes e =
    let at' : ℕ = position_or_len (λ b. b == c) bytes in
    ⊎_elim
    (λ (within : at' < length bytes). absurd (none-some at' (sym e ∙ ap (λ (b : Bool). cond b (Some at') None) (lt-ltb at' (length bytes) within))))
    (λ (past : length bytes ≤ at'). uncut (λ b. b == c) bytes past)
    (cases_lt at' (length bytes))

pub parts_at-some : (c : ℕ) (bytes : List ℕ) (k : ℕ) → position (λ b. b == c) bytes ≡ Some k → parts_at c bytes ≡ take k bytes ∷ parts_at c (take (length bytes - (k + 1)) (drop (k + 1) bytes))
parts_at-some c bytes k e =
    let at' : ℕ = position_or_len (λ b. b == c) bytes in
    let parts = cond_some (ltb at' (length bytes)) at' k e in
    let within : at' < length bytes = ltb-true at' (length bytes) parts.0 in
    slice_split_first (λ b. b == c) bytes 0 within
    ∙ ap (λ (i : ℕ). take i bytes ∷ parts_at c (drop (i + 1) bytes)) parts.1
    ∙ ap (λ (rest : List ℕ). take k bytes ∷ parts_at c rest) (sym (take_all (length bytes - (k + 1)) (drop (k + 1) bytes) (omega (arith, length-drop (k + 1) bytes))))

closed-onto_first : (b : ℕ) (parts : List (List ℕ)) → closed (onto_first b parts) ≡ None
closed-onto_first b [] = refl
closed-onto_first b (part ∷ parts) = refl

-- there is always a part
closed-parts_at : (c : ℕ) (bytes : List ℕ) → closed (parts_at c bytes) ≡ None
closed-parts_at c [] = refl
closed-parts_at c (b ∷ bs) =
    elim (b == c) as (λ t. closed (cond t ([] ∷ parts_at c bs) (onto_first b (parts_at c bs))) ≡ None) [ true ↦ refl | false ↦ closed-onto_first b (parts_at c bs) ]

pub closed-some : (c : ℕ) (rest : Option (Bor (List ℕ))) (x : Bor (List ℕ)) → rest ≡ Some x → closed (left c rest) ≡ None
closed-some c None x e = absurd (none-some x e)
closed-some c (Some bytes) x e = closed-parts_at c bytes.now

-- ---- the numbers of words, read one after another

-- what was read before, and what is still read
abbrev pub after_opening : List ℕ → Option (List ℕ) → Option (List ℕ)
after_opening opening read = read >>= λ ns. Some (opening ++ ns)

pub after_opening-nil : (read : Option (List ℕ)) → after_opening [] read ≡ read
after_opening-nil None = refl
after_opening-nil (Some ns) = refl

regroup : (opening : List ℕ) (n : ℕ) (read : Option (List ℕ)) → after_opening opening (read >>= λ ns. Some (n ∷ ns)) ≡ after_opening (opening ++ n ∷ []) read
regroup opening n None = refl
regroup opening n (Some ns) = ap (λ (l : List ℕ). Some l) (sym (append_assoc opening (n ∷ []) ns))

pub numbers_in-more : (opening : List ℕ) (words total : List (List ℕ)) (word : List ℕ) (rest : List (List ℕ)) (n : ℕ) → words ≡ word ∷ rest → canonical_of word ≡ Some n → after_opening opening (numbers_in words) ≡ numbers_in total → after_opening (opening ++ n ∷ []) (numbers_in rest) ≡ numbers_in total
unfolding numbers_in
numbers_in-more opening words total word rest n is number so_far =
    sym (regroup opening n (numbers_in rest))
    ∙ ap (λ (o : Option ℕ). after_opening opening (o >>= λ m. numbers_in rest >>= λ ns. Some (m ∷ ns))) (sym number)
    ∙ ap (λ (ws : List (List ℕ)). after_opening opening (numbers_in ws)) (sym is) ∙ so_far

pub numbers_in-wrong : (opening : List ℕ) (words total : List (List ℕ)) (word : List ℕ) (rest : List (List ℕ)) → words ≡ word ∷ rest → canonical_of word ≡ None → after_opening opening (numbers_in words) ≡ numbers_in total → numbers_in total ≡ None
unfolding numbers_in
numbers_in-wrong opening words total word rest is number so_far =
    sym so_far ∙ ap (λ (ws : List (List ℕ)). after_opening opening (numbers_in ws)) is
    ∙ ap (λ (o : Option ℕ). after_opening opening (o >>= λ m. numbers_in rest >>= λ ns. Some (m ∷ ns))) number

pub numbers_in-all : (opening : List ℕ) (rest : Option (Bor (List ℕ))) (total : List (List ℕ)) → rest ≡ None → after_opening opening (numbers_in (left 32 rest)) ≡ numbers_in total → numbers_in total ≡ Some opening
unfolding numbers_in
numbers_in-all opening rest total none so_far =
    sym so_far ∙ ap (λ (o : Option (Bor (List ℕ))). after_opening opening (numbers_in (left 32 o))) none ∙ ap (λ (l : List ℕ). Some l) (append-nil opening)

-- a failure, handed on
pub Gives-err : {X Y A B : Type 0} (view : X → Y) (view' : A → B) (refusal : Refusal) (read : Option Y) (total : Option B) → (read ≡ None → total ≡ None) → Gives view (Err refusal) read → Gives view' (Err refusal) total
Gives-err view view' Wrong read total f h = f h
Gives-err view view' NoMemory read total f h = tt

pub not_some : (rest : Option (Bor (List ℕ))) → ((x : Bor (List ℕ)) → rest ≡ Some x → ⊥) → rest ≡ None
not_some None h = refl
not_some (Some x) h = absurd (h x refl)
