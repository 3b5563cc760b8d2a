-- What a line says is what its text says: the words of a line are read as that line, and what is read has those words.
use Rattle.std.proofs.Common.{◌≡◌, ℕ, ◌<◌, true, false, cond, List, [], ◌∷◌, ◌++◌, length, map, Option, Some, None, refl, sym, ap, subst, ◌∙◌, append_assoc, codes, rules, arith}
use Rattle.std.specs.Prelude.{◌==◌, decimal}
use Rattle.std.specs.List.{AllByRecursion, join_with_byte}
use Rattle.std.specs.Str.{bytes_eq, all_ascii_digits}
use Rattle.std.specs.Char.{is_ascii_digit}
use Rattle.std.proofs.lemmas.Bool.{and_parts}
use Rattle.std.proofs.lemmas.Bool.Decides.{nat_tests}
use Rattle.std.proofs.lemmas.List.{append-nil}
use Rattle.std.proofs.lemmas.List.Elements.{All-from_recursion}
use Rattle.std.proofs.lemmas.List.Splits.{slice_split_at, slice_split_none, join_with_byte-slice_split}
use Rattle.std.proofs.lemmas.Option.{same_Some}
use Rattle.std.proofs.lemmas.Slice.Eq.{bytes_eq-Decides}
use Rattle.road_model.specs.declared.request.CursorQuery.{CursorQuery}
use Rattle.road_text.specs.Numbers.{canonical_of}
use Rattle.certificate_text.specs.declared.certificate.BlockKind.{BlockKind}
use Rattle.certificate_text.specs.declared.certificate.BlockKind.TheVariants as kind
use Rattle.certificate_text.specs.declared.certificate.Reason.{Reason}
use Rattle.certificate_text.specs.declared.certificate.Reason.TheVariants as reason
use Rattle.certificate_text.specs.Texts.{Line, Version, Counts, Asks, Heads, Row, End, None_found, Optimum, Route, Via, Done, spaced, numbers_text, ratio_text, kind_word, reason_text, line_text}
use Rattle.certificate_text.specs.Reading.{IsNumber, AreNumbers, HasRadius, HasRatios, HasReason, HasNumbers}
use Rattle.certificate_text.specs.Words.{◌>>=◌, closed, parts_at, number_in, number_alone, pair_alone, numbers_in, ratio_in, version_in, counts_in, asks_in, radius_in, heads_in, row_in, optimum_in, route_in, walk_in, reason_after, reason_in, sole_in, via_in, line_after, line_in, line_of, ratio_word, radius_words, reason_words, words_of}
use Rattle.certificate_text.proofs.DecimalLemmas.{all_ascii_digits-decimal, canonical_of-decimal, IsSpelling-from_read}

-- ---- words are read as their line

number_again : (n : ℕ) (words : List (List ℕ)) → IsNumber n → number_in (decimal n ∷ words) ≡ Some (n, words)
unfolding number_in
number_again n words small = rw (canonical_of-decimal n small) refl

alone_again : (n : ℕ) → IsNumber n → number_alone (decimal n ∷ []) ≡ Some n
unfolding number_alone
alone_again n small = rw (number_again n [] small) refl

pair_again : (a b : ℕ) → IsNumber a → IsNumber b → pair_alone (decimal a ∷ decimal b ∷ []) ≡ Some (a, b)
unfolding pair_alone
pair_again a b p q = rw (number_again a (decimal b ∷ []) p, number_again b [] q) refl

numbers_again : (ns : List ℕ) → AreNumbers ns → numbers_in (map decimal ns) ≡ Some ns
unfolding numbers_in
numbers_again [] small = refl
numbers_again (n ∷ ns) small = rw (canonical_of-decimal n small.0, numbers_again ns small.1) refl

-- a byte that neither cuts a line nor a ratio
abbrev IsPlain : ℕ → Type 0
IsPlain b = ((b == 32) ≡ false) × ((b == 47) ≡ false)

IsPlain-digit : (b : ℕ) → is_ascii_digit b ≡ true → IsPlain b
IsPlain-digit b e =
    let spaceless : (b == 32) ≡ false = grind (arith, nat_tests) in
    let slashless : (b == 47) ≡ false = grind (arith, nat_tests) in
    (spaceless, slashless)

plain_digits : (ds : List ℕ) → all_ascii_digits ds ≡ true → AllByRecursion IsPlain ds
plain_digits [] h = tt
plain_digits (d ∷ ds) h =
    let both = and_parts (is_ascii_digit d) (all_ascii_digits ds) h in
    (IsPlain-digit d both.0, plain_digits ds both.1)

plain_decimal : (n : ℕ) → IsNumber n → AllByRecursion IsPlain (decimal n)
plain_decimal n small = plain_digits (decimal n) (all_ascii_digits-decimal n (omega arith))

-- a word that no space cuts
abbrev IsWord : List ℕ → Type 0
IsWord word = AllByRecursion (λ b. (b == 32) ≡ false) word

IsWord-plain : (word : List ℕ) → AllByRecursion IsPlain word → IsWord word
IsWord-plain [] h = tt
IsWord-plain (b ∷ bs) h = (h.0.0, IsWord-plain bs h.1)

IsWord-append : (a b : List ℕ) → IsWord a → IsWord b → IsWord (a ++ b)
IsWord-append [] b h k = k
IsWord-append (x ∷ xs) b h k = (h.0, IsWord-append xs b h.1 k)

IsWord-decimal : (n : ℕ) → IsNumber n → IsWord (decimal n)
IsWord-decimal n small = IsWord-plain (decimal n) (plain_decimal n small)

IsWord-ratio : (r : ℕ × ℕ) → IsNumber r.0 → IsNumber r.1 → IsWord (ratio_word r)
IsWord-ratio r p q = IsWord-append (decimal r.0) (47 ∷ decimal r.1) (IsWord-decimal r.0 p) (refl, IsWord-decimal r.1 q)

slashless : (ds : List ℕ) → AllByRecursion IsPlain ds → AllByRecursion (λ b. (b == 47) ≡ false) ds
slashless [] h = tt
slashless (d ∷ ds) h = (h.0.1, slashless ds h.1)

ratio_parts : (r : ℕ × ℕ) → IsNumber r.0 → IsNumber r.1 → parts_at 47 (ratio_word r) ≡ decimal r.0 ∷ decimal r.1 ∷ []
ratio_parts r p q =
    slice_split_at (λ b. b == 47) (decimal r.0) 47 (decimal r.1) (All-from_recursion (λ b. (b == 47) ≡ false) (decimal r.0) (slashless (decimal r.0) (plain_decimal r.0 p))) refl
    ∙ ap (λ (parts : List (List ℕ)). decimal r.0 ∷ parts) (slice_split_none (λ b. b == 47) (decimal r.1) (All-from_recursion (λ b. (b == 47) ≡ false) (decimal r.1) (slashless (decimal r.1) (plain_decimal r.1 q))))

ratio_again : (r : ℕ × ℕ) (words : List (List ℕ)) → IsNumber r.0 → IsNumber r.1 → ratio_in (ratio_word r ∷ words) ≡ Some (r, words)
unfolding ratio_in
ratio_again r words p q = rw (ratio_parts r p q, pair_again r.0 r.1 p q) refl

radius_again : (radius : Option ℕ) → HasRadius radius → radius_in (radius_words radius) ≡ Some radius
unfolding radius_in
radius_again None small = refl
radius_again (Some r) small = rw (alone_again r small) refl

heads_again : (kind : BlockKind) (root : ℕ) (radius : Option ℕ) → IsNumber root → HasRadius radius → heads_in kind (decimal root ∷ radius_words radius) ≡ Some (Heads kind root radius)
unfolding heads_in
heads_again kind root radius p q = rw (number_again root (radius_words radius) p, radius_again radius q) refl

walk_again : (first last : ℕ) (detour : List ℕ) → AreNumbers (first ∷ last ∷ detour) → walk_in (decimal first ∷ decimal last ∷ map decimal detour) ≡ Some (first, last, detour)
unfolding walk_in
walk_again first last detour small = rw (number_again first (decimal last ∷ map decimal detour) small.0, number_again last (map decimal detour) small.1.0, numbers_again detour small.1.1) refl

reason_again : (why : Reason) → HasReason why → reason_in (reason_words why) ≡ Some why
unfolding reason_in reason_after
reason_again reason.Optimum small = refl
reason_again (reason.Shared sum) small = rw (alone_again sum small) refl
reason_again (reason.Local first last detour) small = rw (walk_again first last detour small) refl
reason_again (reason.Stretch first last detour) small = rw (walk_again first last detour small) refl
reason_again (reason.Listed name) small = rw (alone_again name small) refl

asks_again : (q : CursorQuery) → IsNumber q.from → IsNumber q.to → HasRatios q → line_in (words_of (Asks q)) ≡ Some (Asks q)
unfolding line_after asks_in
asks_again q from to r =
    let gamma : List (List ℕ) = ratio_word q.gamma ∷ ratio_word q.alpha ∷ ratio_word q.epsilon ∷ [] in
    let alpha : List (List ℕ) = ratio_word q.alpha ∷ ratio_word q.epsilon ∷ [] in
    let epsilon : List (List ℕ) = ratio_word q.epsilon ∷ [] in
    rw (number_again q.from (decimal q.to ∷ gamma) from, number_again q.to gamma to, ratio_again q.gamma alpha r.0 r.1.0, ratio_again q.alpha epsilon r.1.1.0 r.1.1.1.0, ratio_again q.epsilon [] r.1.1.1.1.0 r.1.1.1.1.1.0) refl

words_again : (l : Line) → HasNumbers l → line_in (words_of l) ≡ Some l
unfolding line_after version_in counts_in row_in optimum_in route_in via_in sole_in
words_again Version small = refl
words_again (Counts n m) small = rw (pair_again n m small.0 small.1) refl
words_again (Asks q) small = asks_again q small.0 small.1 small.2
words_again (Heads kind.From root radius) small = heads_again kind.From root radius small.0 small.1
words_again (Heads kind.To root radius) small = heads_again kind.To root radius small.0 small.1
words_again (Row r) small = rw (number_again r.vertex (decimal r.label ∷ decimal r.arc ∷ []) small.0, number_again r.label (decimal r.arc ∷ []) small.1, number_again r.arc [] small.2) refl
words_again End small = refl
words_again None_found small = refl
words_again (Optimum length arcs) small = rw (number_again length (map decimal arcs) small.0, numbers_again arcs small.1) refl
words_again (Route r) small =
    let arcs : List (List ℕ) = map decimal r.arcs in
    rw (number_again r.via (decimal r.length ∷ decimal r.shared ∷ decimal r.plateau ∷ decimal r.rank ∷ arcs) small.0, number_again r.length (decimal r.shared ∷ decimal r.plateau ∷ decimal r.rank ∷ arcs) small.1.0, number_again r.shared (decimal r.plateau ∷ decimal r.rank ∷ arcs) small.1.1.0, number_again r.plateau (decimal r.rank ∷ arcs) small.1.1.1.0, number_again r.rank arcs small.1.1.1.1.0, numbers_again r.arcs small.1.1.1.1.1) refl
words_again (Via v) small = rw (number_again v.vertex (reason_words v.reason) small.0, reason_again v.reason small.1) refl
words_again Done small = refl

-- ---- the text of a line is cut into its words

abbrev AreWords : List (List ℕ) → Type 0
AreWords words = AllByRecursion IsWord words

parts_at-join : (word : List ℕ) (words : List (List ℕ)) → AreWords (word ∷ words) → parts_at 32 (join_with_byte 32 (word ∷ words)) ≡ word ∷ words
parts_at-join word [] h = slice_split_none (λ b. b == 32) word (All-from_recursion (λ b. (b == 32) ≡ false) word h.0)
parts_at-join word (next ∷ words) h =
    slice_split_at (λ b. b == 32) word 32 (join_with_byte 32 (next ∷ words)) (All-from_recursion (λ b. (b == 32) ≡ false) word h.0) refl
    ∙ ap (λ (ws : List (List ℕ)). word ∷ ws) (parts_at-join next words h.1)

AreWords-decimals : (ns : List ℕ) → AreNumbers ns → AreWords (map decimal ns)
AreWords-decimals [] small = tt
AreWords-decimals (n ∷ ns) small = (IsWord-decimal n small.0, AreWords-decimals ns small.1)

AreWords-radius : (radius : Option ℕ) → HasRadius radius → AreWords (radius_words radius)
AreWords-radius None small = search rules
AreWords-radius (Some r) small = (search rules, (IsWord-decimal r small, tt))

AreWords-reason : (why : Reason) → HasReason why → AreWords (reason_words why)
AreWords-reason reason.Optimum small = search rules
AreWords-reason (reason.Shared sum) small = (search rules, (IsWord-decimal sum small, tt))
AreWords-reason (reason.Local first last detour) small = (search rules, (IsWord-decimal first small.0, (IsWord-decimal last small.1.0, AreWords-decimals detour small.1.1)))
AreWords-reason (reason.Stretch first last detour) small = (search rules, (IsWord-decimal first small.0, (IsWord-decimal last small.1.0, AreWords-decimals detour small.1.1)))
AreWords-reason (reason.Listed name) small = (search rules, (IsWord-decimal name small, tt))

AreWords-line : (l : Line) → HasNumbers l → AreWords (words_of l)
AreWords-line Version small = search rules
AreWords-line (Counts n m) small = (search rules, (IsWord-decimal n small.0, (IsWord-decimal m small.1, tt)))
AreWords-line (Asks q) small =
    let r = small.2 in
    (search rules, (IsWord-decimal q.from small.0, (IsWord-decimal q.to small.1, (IsWord-ratio q.gamma r.0 r.1.0, (IsWord-ratio q.alpha r.1.1.0 r.1.1.1.0, (IsWord-ratio q.epsilon r.1.1.1.1.0 r.1.1.1.1.1.0, tt))))))
AreWords-line (Heads kind.From root radius) small = (search rules, (IsWord-decimal root small.0, AreWords-radius radius small.1))
AreWords-line (Heads kind.To root radius) small = (search rules, (IsWord-decimal root small.0, AreWords-radius radius small.1))
AreWords-line (Row r) small = (search rules, (IsWord-decimal r.vertex small.0, (IsWord-decimal r.label small.1, (IsWord-decimal r.arc small.2, tt))))
AreWords-line End small = search rules
AreWords-line None_found small = search rules
AreWords-line (Optimum length arcs) small = (search rules, AreWords-decimals (length ∷ arcs) small)
AreWords-line (Route r) small = (search rules, AreWords-decimals (r.via ∷ r.length ∷ r.shared ∷ r.plateau ∷ r.rank ∷ r.arcs) small)
AreWords-line (Via v) small = (search rules, (IsWord-decimal v.vertex small.0, AreWords-reason v.reason small.1))
AreWords-line Done small = search rules

join-spaced : (word : List ℕ) (ns : List ℕ) → word ++ numbers_text ns ≡ join_with_byte 32 (word ∷ map decimal ns)
join-spaced word [] = append-nil word
join-spaced word (n ∷ ns) = ap (λ (t : List ℕ). word ++ 32 ∷ t) (join-spaced (decimal n) ns)

regroup : (w a b c d e : List ℕ) → w ++ a ++ b ++ c ++ d ++ e ≡ w ++ (a ++ (b ++ (c ++ (d ++ e))))
regroup w a b c d e = simp append_assoc

regroup_more : (w a b c d e f : List ℕ) → w ++ a ++ b ++ c ++ d ++ e ++ f ≡ w ++ (a ++ (b ++ (c ++ (d ++ (e ++ f)))))
regroup_more w a b c d e f = simp append_assoc

via_text-join : (vertex : ℕ) (why : Reason) → codes "via" ++ spaced vertex ++ reason_text why ≡ join_with_byte 32 (codes "via" ∷ decimal vertex ∷ reason_words why)
via_text-join vertex reason.Optimum = refl
via_text-join vertex (reason.Shared sum) = refl
via_text-join vertex (reason.Local first last detour) =
    ap (λ (t : List ℕ). codes "via" ++ spaced vertex ++ t) (append_assoc (codes " local" ++ spaced first) (spaced last) (numbers_text detour) ∙ append_assoc (codes " local") (spaced first) (spaced last ++ numbers_text detour) ∙ ap (λ (t : List ℕ). 32 ∷ t) (join-spaced (codes "local") (first ∷ last ∷ detour)))
via_text-join vertex (reason.Stretch first last detour) =
    ap (λ (t : List ℕ). codes "via" ++ spaced vertex ++ t) (append_assoc (codes " stretch" ++ spaced first) (spaced last) (numbers_text detour) ∙ append_assoc (codes " stretch") (spaced first) (spaced last ++ numbers_text detour) ∙ ap (λ (t : List ℕ). 32 ∷ t) (join-spaced (codes "stretch") (first ∷ last ∷ detour)))
via_text-join vertex (reason.Listed name) = refl

line_text-join : (l : Line) → line_text l ≡ join_with_byte 32 (words_of l)
line_text-join Version = refl
line_text-join (Counts n m) = refl
line_text-join (Asks q) = regroup (codes "query") (spaced q.from) (spaced q.to) (ratio_text q.gamma) (ratio_text q.alpha) (ratio_text q.epsilon)
line_text-join (Heads kind.From root None) = simp append_assoc
line_text-join (Heads kind.From root (Some r)) = simp append_assoc
line_text-join (Heads kind.To root None) = simp append_assoc
line_text-join (Heads kind.To root (Some r)) = simp append_assoc
line_text-join (Row r) = simp append_assoc
line_text-join End = refl
line_text-join None_found = refl
line_text-join (Optimum length arcs) = append_assoc (codes "optimum") (spaced length) (numbers_text arcs) ∙ join-spaced (codes "optimum") (length ∷ arcs)
line_text-join (Route r) =
    regroup_more (codes "route") (spaced r.via) (spaced r.length) (spaced r.shared) (spaced r.plateau) (spaced r.rank) (numbers_text r.arcs)
    ∙ join-spaced (codes "route") (r.via ∷ r.length ∷ r.shared ∷ r.plateau ∷ r.rank ∷ r.arcs)
line_text-join (Via v) = via_text-join v.vertex v.reason
line_text-join Done = refl

parts_at-words : (words : List (List ℕ)) → 0 < length words → AreWords words → parts_at 32 (join_with_byte 32 words) ≡ words
parts_at-words [] some h = absurd (omega arith)
parts_at-words (word ∷ words) some h = parts_at-join word words h

words_of-some : (l : Line) → 0 < length (words_of l)
words_of-some Version = omega arith
words_of-some (Counts n m) = omega arith
words_of-some (Asks q) = omega arith
words_of-some (Heads kind root radius) = omega arith
words_of-some (Row r) = omega arith
words_of-some End = omega arith
words_of-some None_found = omega arith
words_of-some (Optimum len arcs) = omega arith
words_of-some (Route r) = omega arith
words_of-some (Via v) = omega arith
words_of-some Done = omega arith

pub line_of-again : (l : Line) → HasNumbers l → line_of (line_text l) ≡ Some l
unfolding line_of
line_of-again l small =
    ap (λ (t : List ℕ). line_in (parts_at 32 t)) (line_text-join l)
    ∙ ap line_in (parts_at-words (words_of l) (words_of-some l) (AreWords-line l small))
    ∙ words_again l small

-- ---- what is read has the words of its line

bind_some : {A B P : Type 0} {f : A → Option B} {y : B} (o : Option A) → ((x : A) → o ≡ Some x → f x ≡ Some y → P) → (o >>= f) ≡ Some y → P
bind_some None k e = absurd (cc)
bind_some (Some x) k e = k x refl e

closed_takes : (words : List (List ℕ)) (done : Unit {0}) → closed words ≡ Some done → words ≡ []
closed_takes [] done e = refl
closed_takes (word ∷ words) done e = absurd (cc)

-- the first word is the number, and these are the words after it
record TakesNumber (words : List (List ℕ)) (x : ℕ × List (List ℕ)) : Type 0 where
  is : words ≡ decimal x.0 ∷ x.1
  small : IsNumber x.0

number_takes : (words : List (List ℕ)) (x : ℕ × List (List ℕ)) → number_in words ≡ Some x → TakesNumber words x
unfolding number_in
number_takes [] x e = absurd (cc)
number_takes (word ∷ words) x e =
    bind_some (canonical_of word) (λ n number same.
    let spelled = IsSpelling-from_read word n number in
    subst (λ (y : ℕ × List (List ℕ)). TakesNumber (word ∷ words) y) (same_Some (n, words) x same) (record { is = ap (λ (w : List ℕ). w ∷ words) spelled.field_is; small = spelled.small })) e

pair_takes : (words : List (List ℕ)) (p : ℕ × ℕ) → pair_alone words ≡ Some p → (words ≡ decimal p.0 ∷ decimal p.1 ∷ []) × IsNumber p.0 × IsNumber p.1
unfolding pair_alone
pair_takes words p e =
    bind_some (number_in words) (λ a ea. bind_some (number_in a.1) (λ b eb. bind_some (closed b.1) (λ done ed same.
    let ta = number_takes words a ea in
    let tb = number_takes a.1 b eb in
    subst (λ (q : ℕ × ℕ). (words ≡ decimal q.0 ∷ decimal q.1 ∷ []) × IsNumber q.0 × IsNumber q.1) (same_Some (a.0, b.0) p same)
    (ta.is ∙ ap (λ (ws : List (List ℕ)). decimal a.0 ∷ ws) (tb.is ∙ ap (λ (ws : List (List ℕ)). decimal b.0 ∷ ws) (closed_takes b.1 done ed)), ta.small, tb.small)))) e

alone_takes : (words : List (List ℕ)) (n : ℕ) → number_alone words ≡ Some n → (words ≡ decimal n ∷ []) × IsNumber n
unfolding number_alone
alone_takes words n e =
    bind_some (number_in words) (λ a ea. bind_some (closed a.1) (λ done ed same.
    let ta = number_takes words a ea in
    subst (λ (m : ℕ). (words ≡ decimal m ∷ []) × IsNumber m) (same_Some a.0 n same)
    (ta.is ∙ ap (λ (ws : List (List ℕ)). decimal a.0 ∷ ws) (closed_takes a.1 done ed), ta.small))) e

numbers_take : (words : List (List ℕ)) (ns : List ℕ) → numbers_in words ≡ Some ns → (words ≡ map decimal ns) × AreNumbers ns
unfolding numbers_in
numbers_take [] ns e = subst (λ (l : List ℕ). ([] ≡ map decimal l) × AreNumbers l) (same_Some [] ns e) (refl, tt)
numbers_take (word ∷ words) ns e =
    bind_some (canonical_of word) (λ n number. bind_some (numbers_in words) (λ ms more same.
    let spelled = IsSpelling-from_read word n number in
    let later = numbers_take words ms more in
    subst (λ (l : List ℕ). (word ∷ words ≡ map decimal l) × AreNumbers l) (same_Some (n ∷ ms) ns same)
    (ap (λ (w : List ℕ). w ∷ words) spelled.field_is ∙ ap (λ (ws : List (List ℕ)). decimal n ∷ ws) later.0, (spelled.small, later.1)))) e

record TakesRatio (words : List (List ℕ)) (x : (ℕ × ℕ) × List (List ℕ)) : Type 0 where
  is : words ≡ ratio_word x.0 ∷ x.1
  first : IsNumber x.0.0
  second : IsNumber x.0.1

ratio_is : (word : List ℕ) (r : ℕ × ℕ) → parts_at 47 word ≡ decimal r.0 ∷ decimal r.1 ∷ [] → word ≡ ratio_word r
ratio_is word r e = sym (join_with_byte-slice_split 47 word) ∙ ap (λ (ws : List (List ℕ)). join_with_byte 47 ws) e

ratio_takes : (words : List (List ℕ)) (x : (ℕ × ℕ) × List (List ℕ)) → ratio_in words ≡ Some x → TakesRatio words x
unfolding ratio_in
ratio_takes [] x e = absurd (cc)
ratio_takes (word ∷ words) x e =
    bind_some (pair_alone (parts_at 47 word)) (λ r pair same.
    let taken = pair_takes (parts_at 47 word) r pair in
    subst (λ (y : (ℕ × ℕ) × List (List ℕ)). TakesRatio (word ∷ words) y) (same_Some (r, words) x same)
    (record { is = ap (λ (w : List ℕ). w ∷ words) (ratio_is word r taken.0); first = taken.1; second = taken.2 })) e

-- ---- lines

word_is : (w word : List ℕ) → bytes_eq w word ≡ true → w ≡ word
word_is w word e = (bytes_eq-Decides w word).0 e

chosen : {A P : Type 0} {a b : Option A} {y : A} (w word : List ℕ) → (w ≡ word → a ≡ Some y → P) → (b ≡ Some y → P) → cond (bytes_eq w word) a b ≡ Some y → P
chosen {A} {P} {a} {b} {y} w word so other e =
    (elim (bytes_eq w word) as (λ t. (t ≡ true → w ≡ word) → cond t a b ≡ Some y → P) [
      | true ↦ λ is e. so (is refl) e
      | false ↦ λ is e. other e
    ]) (word_is w word) e

record TakesLine (word : List ℕ) (words : List (List ℕ)) (l : Line) : Type 0 where
  is : word ∷ words ≡ words_of l
  small : HasNumbers l

taken : (word : List ℕ) (words : List (List ℕ)) (made l : Line) → ◌≡◌ {A = Option Line} (Some made) (Some l) → word ∷ words ≡ words_of made → HasNumbers made → TakesLine word words l
taken word words made l same is small = subst (λ (m : Line). TakesLine word words m) (same_Some made l same) (record { is = is; small = small })

onto : (word : List ℕ) {a b : List (List ℕ)} → a ≡ b → word ∷ a ≡ word ∷ b
onto word e = ap (λ (ws : List (List ℕ)). word ∷ ws) e

version_takes : (words : List (List ℕ)) (l : Line) → version_in words ≡ Some l → TakesLine (codes "cert") words l
unfolding version_in
version_takes [] l e = absurd (cc)
version_takes (word ∷ words) l e =
    chosen word (codes "1") (λ one so. bind_some (closed words) (λ done ed same.
    taken (codes "cert") (word ∷ words) Version l same (onto (codes "cert") (ap (λ (w : List ℕ). w ∷ words) one ∙ onto (codes "1") (closed_takes words done ed))) tt) so) (λ other. absurd (cc)) e

counts_takes : (words : List (List ℕ)) (l : Line) → counts_in words ≡ Some l → TakesLine (codes "graph") words l
unfolding counts_in
counts_takes words l e =
    bind_some (pair_alone words) (λ p ep same.
    let t = pair_takes words p ep in
    taken (codes "graph") words (Counts p.0 p.1) l same (onto (codes "graph") t.0) (t.1, t.2)) e

asks_takes : (words : List (List ℕ)) (l : Line) → asks_in words ≡ Some l → TakesLine (codes "query") words l
unfolding asks_in
asks_takes words l e =
    bind_some (number_in words) (λ from ef. bind_some (number_in from.1) (λ to et.
    bind_some (ratio_in to.1) (λ gamma eg. bind_some (ratio_in gamma.1) (λ alpha ea. bind_some (ratio_in alpha.1) (λ epsilon ee.
    bind_some (closed epsilon.1) (λ done ed same.
    let tf = number_takes words from ef in
    let tt' = number_takes from.1 to et in
    let tg = ratio_takes to.1 gamma eg in
    let ta = ratio_takes gamma.1 alpha ea in
    let te = ratio_takes alpha.1 epsilon ee in
    taken (codes "query") words (Asks (record { from = from.0; to = to.0; gamma = gamma.0; alpha = alpha.0; epsilon = epsilon.0 })) l same
    (onto (codes "query") (tf.is ∙ onto (decimal from.0) (tt'.is ∙ onto (decimal to.0) (tg.is ∙ onto (ratio_word gamma.0) (ta.is ∙ onto (ratio_word alpha.0) (te.is ∙ onto (ratio_word epsilon.0) (closed_takes epsilon.1 done ed)))))))
    (tf.small, tt'.small, (tg.first, (tg.second, (ta.first, (ta.second, (te.first, (te.second, tt))))))))))))) e

radius_takes : (words : List (List ℕ)) (r : Option ℕ) → radius_in words ≡ Some r → (words ≡ radius_words r) × HasRadius r
unfolding radius_in
radius_takes [] r e = absurd (cc)
radius_takes (word ∷ words) r e =
    chosen word (codes "all") (λ all so. bind_some (closed words) (λ done ed same.
    subst (λ (o : Option ℕ). (word ∷ words ≡ radius_words o) × HasRadius o) (same_Some None r same)
    (ap (λ (w : List ℕ). w ∷ words) all ∙ onto (codes "all") (closed_takes words done ed), tt)) so) (λ other.
    chosen word (codes "radius") (λ limit so. bind_some (number_alone words) (λ n en same.
    let t = alone_takes words n en in
    subst (λ (o : Option ℕ). (word ∷ words ≡ radius_words o) × HasRadius o) (same_Some (Some n) r same)
    (ap (λ (w : List ℕ). w ∷ words) limit ∙ onto (codes "radius") t.0, t.1)) so) (λ never. absurd (cc)) other) e

heads_takes : (kind : BlockKind) (words : List (List ℕ)) (l : Line) → heads_in kind words ≡ Some l → TakesLine (kind_word kind) words l
unfolding heads_in
heads_takes kind words l e =
    bind_some (number_in words) (λ root er. bind_some (radius_in root.1) (λ radius ed same.
    let tr = number_takes words root er in
    let td = radius_takes root.1 radius ed in
    taken (kind_word kind) words (Heads kind root.0 radius) l same (onto (kind_word kind) (tr.is ∙ onto (decimal root.0) td.0)) (tr.small, td.1))) e

row_takes : (words : List (List ℕ)) (l : Line) → row_in words ≡ Some l → TakesLine (codes "row") words l
unfolding row_in
row_takes words l e =
    bind_some (number_in words) (λ a ea. bind_some (number_in a.1) (λ b eb. bind_some (number_in b.1) (λ c ec. bind_some (closed c.1) (λ done ed same.
    let ta = number_takes words a ea in
    let tb = number_takes a.1 b eb in
    let tc = number_takes b.1 c ec in
    taken (codes "row") words (Row (record { vertex = a.0; label = b.0; arc = c.0 })) l same
    (onto (codes "row") (ta.is ∙ onto (decimal a.0) (tb.is ∙ onto (decimal b.0) (tc.is ∙ onto (decimal c.0) (closed_takes c.1 done ed)))))
    (ta.small, tb.small, tc.small))))) e

optimum_takes : (words : List (List ℕ)) (l : Line) → optimum_in words ≡ Some l → TakesLine (codes "optimum") words l
unfolding optimum_in
optimum_takes words l e =
    bind_some (number_in words) (λ a ea. bind_some (numbers_in a.1) (λ arcs er same.
    let ta = number_takes words a ea in
    let tr = numbers_take a.1 arcs er in
    taken (codes "optimum") words (Optimum a.0 arcs) l same (onto (codes "optimum") (ta.is ∙ onto (decimal a.0) tr.0)) (ta.small, tr.1))) e

route_takes : (words : List (List ℕ)) (l : Line) → route_in words ≡ Some l → TakesLine (codes "route") words l
unfolding route_in
route_takes words l e =
    bind_some (number_in words) (λ a ea. bind_some (number_in a.1) (λ b eb. bind_some (number_in b.1) (λ c ec. bind_some (number_in c.1) (λ d ed. bind_some (number_in d.1) (λ r er. bind_some (numbers_in r.1) (λ arcs es same.
    let ta = number_takes words a ea in
    let tb = number_takes a.1 b eb in
    let tc = number_takes b.1 c ec in
    let td = number_takes c.1 d ed in
    let tr = number_takes d.1 r er in
    let ts = numbers_take r.1 arcs es in
    taken (codes "route") words (Route (record { via = a.0; length = b.0; shared = c.0; plateau = d.0; rank = r.0; arcs = arcs })) l same
    (onto (codes "route") (ta.is ∙ onto (decimal a.0) (tb.is ∙ onto (decimal b.0) (tc.is ∙ onto (decimal c.0) (td.is ∙ onto (decimal d.0) (tr.is ∙ onto (decimal r.0) ts.0))))))
    (ta.small, (tb.small, (tc.small, (td.small, (tr.small, ts.1))))))))))) e

-- two places and a walk
record TakesWalk (words : List (List ℕ)) (walk : ℕ × ℕ × List ℕ) : Type 0 where
  is : words ≡ decimal walk.0 ∷ decimal walk.1 ∷ map decimal walk.2
  small : AreNumbers (walk.0 ∷ walk.1 ∷ walk.2)

walk_takes : (words : List (List ℕ)) (walk : ℕ × ℕ × List ℕ) → walk_in words ≡ Some walk → TakesWalk words walk
unfolding walk_in
walk_takes words walk e =
    bind_some (number_in words) (λ a ea. bind_some (number_in a.1) (λ b eb. bind_some (numbers_in b.1) (λ ns en same.
    let ta = number_takes words a ea in
    let tb = number_takes a.1 b eb in
    let tn = numbers_take b.1 ns en in
    subst (λ (w : ℕ × ℕ × List ℕ). TakesWalk words w) (same_Some (a.0, b.0, ns) walk same)
    (record { is = ta.is ∙ onto (decimal a.0) (tb.is ∙ onto (decimal b.0) tn.0); small = (ta.small, (tb.small, tn.1)) })))) e

record TakesReason (word : List ℕ) (words : List (List ℕ)) (why : Reason) : Type 0 where
  is : word ∷ words ≡ reason_words why
  small : HasReason why

found : (word : List ℕ) (words : List (List ℕ)) (made why : Reason) → ◌≡◌ {A = Option Reason} (Some made) (Some why) → word ∷ words ≡ reason_words made → HasReason made → TakesReason word words why
found word words made why same is small = subst (λ (m : Reason). TakesReason word words m) (same_Some made why same) (record { is = is; small = small })

reason_after_takes : (word : List ℕ) (words : List (List ℕ)) (why : Reason) → reason_after word words ≡ Some why → TakesReason word words why
unfolding reason_after
reason_after_takes word words why e =
    chosen word (codes "optimum") (λ w so. bind_some (closed words) (λ done ed same.
    found word words reason.Optimum why same (ap (λ (x : List ℕ). x ∷ words) w ∙ onto (codes "optimum") (closed_takes words done ed)) tt) so) (λ other.
    chosen word (codes "shared") (λ w so. bind_some (number_alone words) (λ n en same.
    let t = alone_takes words n en in
    found word words (reason.Shared n) why same (ap (λ (x : List ℕ). x ∷ words) w ∙ onto (codes "shared") t.0) t.1) so) (λ other.
    chosen word (codes "local") (λ w so. bind_some (walk_in words) (λ walk ew same.
    let t = walk_takes words walk ew in
    found word words (reason.Local walk.0 walk.1 walk.2) why same (ap (λ (x : List ℕ). x ∷ words) w ∙ onto (codes "local") t.is) t.small) so) (λ other.
    chosen word (codes "stretch") (λ w so. bind_some (walk_in words) (λ walk ew same.
    let t = walk_takes words walk ew in
    found word words (reason.Stretch walk.0 walk.1 walk.2) why same (ap (λ (x : List ℕ). x ∷ words) w ∙ onto (codes "stretch") t.is) t.small) so) (λ other.
    chosen word (codes "listed") (λ w so. bind_some (number_alone words) (λ n en same.
    let t = alone_takes words n en in
    found word words (reason.Listed n) why same (ap (λ (x : List ℕ). x ∷ words) w ∙ onto (codes "listed") t.0) t.1) so) (λ other. absurd (cc)) other) other) other) other) e

reason_takes : (words : List (List ℕ)) (why : Reason) → reason_in words ≡ Some why → (words ≡ reason_words why) × HasReason why
unfolding reason_in
reason_takes [] why e = absurd (cc)
reason_takes (word ∷ words) why e = (let t = reason_after_takes word words why e in (t.is, t.small))

via_takes : (words : List (List ℕ)) (l : Line) → via_in words ≡ Some l → TakesLine (codes "via") words l
unfolding via_in
via_takes words l e =
    bind_some (number_in words) (λ vertex ev. bind_some (reason_in vertex.1) (λ why ew same.
    let tv = number_takes words vertex ev in
    let tw = reason_takes vertex.1 why ew in
    taken (codes "via") words (Via (record { vertex = vertex.0; reason = why })) l same (onto (codes "via") (tv.is ∙ onto (decimal vertex.0) tw.0)) (tv.small, tw.1))) e

sole_takes : (word : List ℕ) (words : List (List ℕ)) (l : Line) → sole_in word words ≡ Some l → TakesLine word words l
unfolding sole_in
sole_takes word words l e =
    bind_some (closed words) (λ done ed some.
    let is : (w : List ℕ) → word ≡ w → word ∷ words ≡ w ∷ [] = λ w same. ap (λ (x : List ℕ). x ∷ words) same ∙ onto w (closed_takes words done ed) in
    chosen word (codes "end") (λ w same. taken word words End l same (is (codes "end") w) tt) (λ other.
    chosen word (codes "none") (λ w same. taken word words None_found l same (is (codes "none") w) tt) (λ other.
    chosen word (codes "done") (λ w same. taken word words Done l same (is (codes "done") w) tt) (λ other. absurd (cc)) other) other) some) e

-- the same of a word that is this one
of_word : (w word : List ℕ) (words : List (List ℕ)) (l : Line) → word ≡ w → TakesLine w words l → TakesLine word words l
of_word w word words l e h = subst (λ (x : List ℕ). TakesLine x words l) (sym e) h

line_takes : (word : List ℕ) (words : List (List ℕ)) (l : Line) → line_after word words ≡ Some l → TakesLine word words l
unfolding line_after
line_takes word words l e =
    chosen word (codes "row") (λ w so. of_word (codes "row") word words l w (row_takes words l so)) (λ other.
    chosen word (codes "via") (λ w so. of_word (codes "via") word words l w (via_takes words l so)) (λ other.
    chosen word (codes "route") (λ w so. of_word (codes "route") word words l w (route_takes words l so)) (λ other.
    chosen word (codes "from") (λ w so. of_word (codes "from") word words l w (heads_takes kind.From words l so)) (λ other.
    chosen word (codes "to") (λ w so. of_word (codes "to") word words l w (heads_takes kind.To words l so)) (λ other.
    chosen word (codes "optimum") (λ w so. of_word (codes "optimum") word words l w (optimum_takes words l so)) (λ other.
    chosen word (codes "cert") (λ w so. of_word (codes "cert") word words l w (version_takes words l so)) (λ other.
    chosen word (codes "graph") (λ w so. of_word (codes "graph") word words l w (counts_takes words l so)) (λ other.
    chosen word (codes "query") (λ w so. of_word (codes "query") word words l w (asks_takes words l so)) (λ other.
    sole_takes word words l other) other) other) other) other) other) other) other) other) e

line_in_takes : (words : List (List ℕ)) (l : Line) → line_in words ≡ Some l → (words ≡ words_of l) × HasNumbers l
line_in_takes [] l e = absurd (cc)
line_in_takes (word ∷ words) l e = (let t = line_takes word words l e in (t.is, t.small))

pub line_of-takes : (raw : List ℕ) (l : Line) → line_of raw ≡ Some l → (line_text l ≡ raw) × HasNumbers l
unfolding line_of
line_of-takes raw l e =
    let t = line_in_takes (parts_at 32 raw) l e in
    (line_text-join l ∙ ap (λ (ws : List (List ℕ)). join_with_byte 32 ws) (sym t.0) ∙ join_with_byte-slice_split 32 raw, t.1)
