-- A raw line as words with one space between each two, and what it says.
--   parts_at c bytes     the bytes, cut at each byte c
--   left c rest          the parts of bytes that are still to be read; none where no byte c stood after the last part
--   first >>= next       a step, and the next one where it did not fail
--   closed words         no word is left
--   number_in, ratio_in  the number or the ratio that is the first word, and the words after it
--   number_alone, pair_alone, numbers_in   one number, two numbers or any numbers that are all of the words
--   version_in, counts_in, asks_in, heads_in, row_in, optimum_in, route_in, via_in
--                        what a line of this kind says by the words after its first one
--   radius_in words      the radius of a block, or that it has none
--   walk_in words        two places and the arcs of a walk
--   reason_after, reason_in   a reason, by its first word and those after it, or by all of them
--   sole_in word words   what a line of one word says
--   line_after word words   what a line says by its first word and those after it
--   line_in words        the same by all of them
--   line_of raw          what a raw line says, where it is a line of a certificate
--   ratio_word, radius_words, reason_words, words_of   the words of a line or a part of it
--   line_said said       the line that was read
--   Gives view result read   a function returned what reading gives, or memory was refused
use Rattle.std.specs.Prelude.{◌≡◌, ℕ, ◌==◌, List, [], ◌∷◌, ◌++◌, Option, Some, None, Result, Ok, Err, map, codes, decimal, if◌then◌else◌}
use Rattle.std.specs.List.{slice_split}
use Rattle.std.specs.Str.{bytes_eq}
use Rattle.std.specs.Borrow.{Bor}
use Rattle.road_text.specs.Numbers.{canonical_of}
use Rattle.certificate_text.specs.declared.certificate.BlockKind.{BlockKind}
use Rattle.certificate_text.specs.declared.certificate.BlockKind.TheVariants as kind
use Rattle.certificate_text.specs.declared.certificate.Reason.{Reason}
use Rattle.certificate_text.specs.declared.certificate.Reason.TheVariants as reason
use Rattle.certificate_text.specs.declared.line.Refusal.{Refusal}
use Rattle.certificate_text.specs.declared.line.Refusal.TheVariants as refusal
use Rattle.certificate_text.specs.declared.line.Said.{Said}
use Rattle.certificate_text.specs.declared.line.Said.TheVariants as said
use Rattle.certificate_text.specs.Texts.{Line, Version, Counts, Asks, Heads, Row, End, None_found, Optimum, Route, Via, Done, kind_word}

abbrev pub parts_at : ℕ → List ℕ → List (List ℕ)
parts_at c bytes = slice_split (λ b. b == c) bytes

abbrev pub left : ℕ → Option (Bor (List ℕ)) → List (List ℕ)
left c None = []
left c (Some bytes) = parts_at c bytes.now

infixl 10 ◌>>=◌
abbrev pub ◌>>=◌ : {A B : Type 0} → Option A → (A → Option B) → Option B
None >>= next = None
(Some x) >>= next = next x

abbrev pub closed : List (List ℕ) → Option (Unit {0})
closed [] = Some tt
closed (word ∷ words) = None

-- ---- numbers

unfoldable pub number_in : List (List ℕ) → Option (ℕ × List (List ℕ))
number_in [] = None
number_in (word ∷ words) = canonical_of word >>= λ n. Some (n, words)

unfoldable pub number_alone : List (List ℕ) → Option ℕ
number_alone words = number_in words >>= λ n. closed n.1 >>= λ done. Some n.0

unfoldable pub pair_alone : List (List ℕ) → Option (ℕ × ℕ)
pair_alone words = number_in words >>= λ a. number_in a.1 >>= λ b. closed b.1 >>= λ done. Some (a.0, b.0)

unfoldable pub numbers_in : List (List ℕ) → Option (List ℕ)
numbers_in [] = Some []
numbers_in (word ∷ words) = canonical_of word >>= λ n. numbers_in words >>= λ ns. Some (n ∷ ns)

unfoldable pub ratio_in : List (List ℕ) → Option ((ℕ × ℕ) × List (List ℕ))
ratio_in [] = None
ratio_in (word ∷ words) = pair_alone (parts_at 47 word) >>= λ r. Some (r, words)

-- ---- lines

unfoldable pub version_in : List (List ℕ) → Option Line
version_in [] = None
version_in (word ∷ words) = if bytes_eq word (codes "1") then (closed words >>= λ done. Some Version) else None

unfoldable pub counts_in : List (List ℕ) → Option Line
counts_in words = pair_alone words >>= λ p. Some (Counts p.0 p.1)

unfoldable pub asks_in : List (List ℕ) → Option Line
asks_in words =
    number_in words >>= λ from. number_in from.1 >>= λ to.
    ratio_in to.1 >>= λ gamma. ratio_in gamma.1 >>= λ alpha. ratio_in alpha.1 >>= λ epsilon.
    closed epsilon.1 >>= λ done. Some (Asks (record { from = from.0; to = to.0; gamma = gamma.0; alpha = alpha.0; epsilon = epsilon.0 }))

unfoldable pub radius_in : List (List ℕ) → Option (Option ℕ)
radius_in [] = None
radius_in (word ∷ words) =
    if bytes_eq word (codes "all") then (closed words >>= λ done. Some None)
    else (if bytes_eq word (codes "radius") then (number_alone words >>= λ r. Some (Some r))
    else None)

unfoldable pub heads_in : BlockKind → List (List ℕ) → Option Line
heads_in kind words = number_in words >>= λ root. radius_in root.1 >>= λ radius. Some (Heads kind root.0 radius)

unfoldable pub row_in : List (List ℕ) → Option Line
row_in words =
    number_in words >>= λ vertex. number_in vertex.1 >>= λ label. number_in label.1 >>= λ arc.
    closed arc.1 >>= λ done. Some (Row (record { vertex = vertex.0; label = label.0; arc = arc.0 }))

unfoldable pub optimum_in : List (List ℕ) → Option Line
optimum_in words = number_in words >>= λ length. numbers_in length.1 >>= λ arcs. Some (Optimum length.0 arcs)

unfoldable pub route_in : List (List ℕ) → Option Line
route_in words =
    number_in words >>= λ via. number_in via.1 >>= λ length. number_in length.1 >>= λ shared.
    number_in shared.1 >>= λ plateau. number_in plateau.1 >>= λ rank. numbers_in rank.1 >>= λ arcs.
    Some (Route (record { via = via.0; length = length.0; shared = shared.0; plateau = plateau.0; rank = rank.0; arcs = arcs }))

-- two places and a walk
unfoldable pub walk_in : List (List ℕ) → Option (ℕ × ℕ × List ℕ)
walk_in words = number_in words >>= λ first. number_in first.1 >>= λ last. numbers_in last.1 >>= λ detour. Some (first.0, last.0, detour)

-- a reason by its first word and those after it
unfoldable pub reason_after : List ℕ → List (List ℕ) → Option Reason
reason_after word words =
    if bytes_eq word (codes "optimum") then (closed words >>= λ done. Some reason.Optimum)
    else (if bytes_eq word (codes "shared") then (number_alone words >>= λ sum. Some (reason.Shared sum))
    else (if bytes_eq word (codes "local") then (walk_in words >>= λ walk. Some (reason.Local walk.0 walk.1 walk.2))
    else (if bytes_eq word (codes "stretch") then (walk_in words >>= λ walk. Some (reason.Stretch walk.0 walk.1 walk.2))
    else (if bytes_eq word (codes "listed") then (number_alone words >>= λ name. Some (reason.Listed name))
    else None))))

unfoldable pub reason_in : List (List ℕ) → Option Reason
reason_in [] = None
reason_in (word ∷ words) = reason_after word words

unfoldable pub via_in : List (List ℕ) → Option Line
via_in words = number_in words >>= λ vertex. reason_in vertex.1 >>= λ why. Some (Via (record { vertex = vertex.0; reason = why }))

-- a line of one word
unfoldable pub sole_in : List ℕ → List (List ℕ) → Option Line
sole_in word words =
    closed words >>= λ done.
    if bytes_eq word (codes "end") then Some End
    else (if bytes_eq word (codes "none") then Some None_found
    else (if bytes_eq word (codes "done") then Some Done
    else None))

-- a line by its first word and those after it
unfoldable pub line_after : List ℕ → List (List ℕ) → Option Line
line_after word words =
    if bytes_eq word (codes "row") then row_in words
    else (if bytes_eq word (codes "via") then via_in words
    else (if bytes_eq word (codes "route") then route_in words
    else (if bytes_eq word (codes "from") then heads_in kind.From words
    else (if bytes_eq word (codes "to") then heads_in kind.To words
    else (if bytes_eq word (codes "optimum") then optimum_in words
    else (if bytes_eq word (codes "cert") then version_in words
    else (if bytes_eq word (codes "graph") then counts_in words
    else (if bytes_eq word (codes "query") then asks_in words
    else sole_in word words))))))))

abbrev pub line_in : List (List ℕ) → Option Line
line_in [] = None
line_in (word ∷ words) = line_after word words

unfoldable pub line_of : List ℕ → Option Line
line_of raw = line_in (parts_at 32 raw)

-- ---- the words of a line

abbrev pub ratio_word : ℕ × ℕ → List ℕ
ratio_word r = decimal r.0 ++ 47 ∷ decimal r.1

abbrev pub radius_words : Option ℕ → List (List ℕ)
radius_words None = codes "all" ∷ []
radius_words (Some r) = codes "radius" ∷ decimal r ∷ []

abbrev pub reason_words : Reason → List (List ℕ)
reason_words reason.Optimum = codes "optimum" ∷ []
reason_words (reason.Shared sum) = codes "shared" ∷ decimal sum ∷ []
reason_words (reason.Local first last detour) = codes "local" ∷ decimal first ∷ decimal last ∷ map decimal detour
reason_words (reason.Stretch first last detour) = codes "stretch" ∷ decimal first ∷ decimal last ∷ map decimal detour
reason_words (reason.Listed name) = codes "listed" ∷ decimal name ∷ []

abbrev pub words_of : Line → List (List ℕ)
words_of Version = codes "cert" ∷ codes "1" ∷ []
words_of (Counts n m) = codes "graph" ∷ decimal n ∷ decimal m ∷ []
words_of (Asks q) = codes "query" ∷ decimal q.from ∷ decimal q.to ∷ ratio_word q.gamma ∷ ratio_word q.alpha ∷ ratio_word q.epsilon ∷ []
words_of (Heads kind root radius) = kind_word kind ∷ decimal root ∷ radius_words radius
words_of (Row r) = codes "row" ∷ decimal r.vertex ∷ decimal r.label ∷ decimal r.arc ∷ []
words_of End = codes "end" ∷ []
words_of None_found = codes "none" ∷ []
words_of (Optimum length arcs) = codes "optimum" ∷ decimal length ∷ map decimal arcs
words_of (Route r) = codes "route" ∷ decimal r.via ∷ decimal r.length ∷ decimal r.shared ∷ decimal r.plateau ∷ decimal r.rank ∷ map decimal r.arcs
words_of (Via v) = codes "via" ∷ decimal v.vertex ∷ reason_words v.reason
words_of Done = codes "done" ∷ []

-- ---- what the code returns

abbrev pub line_said : Said → Line
line_said said.Version = Version
line_said (said.Counts n m) = Counts n m
line_said (said.Asks q) = Asks q
line_said (said.Heads kind root radius) = Heads kind root radius
line_said (said.Row r) = Row r
line_said said.End = End
line_said said.NoneFound = None_found
line_said (said.Optimum length arcs) = Optimum length arcs
line_said (said.Route r) = Route r
line_said (said.Via v) = Via v
line_said said.Done = Done

abbrev pub Gives : {X Y : Type 0} → (X → Y) → Result X Refusal → Option Y → Type 0
Gives view (Ok x) read = read ≡ Some (view x)
Gives view (Err refusal.Wrong) read = read ≡ None
Gives view (Err refusal.NoMemory) read = Unit {0}
