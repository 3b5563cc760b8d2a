-- The canonical text of a graph is accepted as that graph.
use Rattle.std.proofs.Common.{◌≡◌, ◌≢◌, ℕ, ◌+◌, ◌-◌, ◌*◌, ◌^◌, ◌<◌, ◌≤◌, true, false, zero, suc, List, [], ◌∷◌, ◌++◌, length, map, get_or, codes, Option, Some, None, Ok, refl, sym, ap, ◌∙◌, arith, append_assoc, lit<}
use Rattle.std.specs.Prelude.{decimal}
use Rattle.std.specs.List.{flat_map, cons_option, All, AllByRecursion}
use Rattle.std.specs.Option.{option_or}
use Rattle.std.specs.Char.{is_ascii_digit}
use Rattle.std.specs.Str.{all_ascii_digits}
use Rattle.std.proofs.lemmas.Bool.{and_parts, ne_eqb, lt-leb, le-ltb, eqb-false}
use Rattle.std.proofs.lemmas.Bool.Decides.{nat_tests}
use Rattle.std.proofs.lemmas.Fmt.{digits_decimal, digits_value-decimal, decimal_nonempty, length-decimal-le}
use Rattle.std.proofs.lemmas.List.{append-nil, length-append, length_push, get_or-append_right}
use Rattle.std.proofs.lemmas.List.Elements.{All-head, All-tail}
use Rattle.road_model.specs.declared.rows.ArcRow.{ArcRow}
use Rattle.road_model.specs.declared.graph_file.TheConstants.{MAX_VERTICES, MAX_ARCS, MAX_LENGTH}
use Rattle.road_model.specs.Graph.{Graph, IsArc}
use Rattle.road_model.specs.File.{IsWithinLimits}
use Rattle.road_text.specs.Lines.{HasNoFeed, lines_of, without_return}
use Rattle.road_text.specs.Fields.{is_blank, fields_of}
use Rattle.road_text.specs.Numbers.{number_of}
use Rattle.road_text.proofs.LineLemmas.{HasNoFeed-append, lines_of-line, lines_of-nil, without_return-plain}
use Rattle.road_text.proofs.FieldLemmas.{fields_of-field, fields_of-last, first_byte-stop}
use Rattle.road_text.proofs.NumberLemmas.{number_of-digits, by_ascii_digits}
use Rattle.dimacs_reader.specs.declared.fault.GraphKind.{GraphKind}
use Rattle.dimacs_reader.specs.declared.line.Problem.{Problem}
use Rattle.dimacs_reader.specs.declared.line.TheConstants.{MAX_FILE}
use Rattle.dimacs_reader.specs.Gr.{is_comment, is_byte, vertices_of, problem_of, arc_of, problem_in, arcs_in, fields_fault, fault_of, or_later, first_fault, end_fault, graph_of, gr_text}
use Rattle.dimacs_reader.specs.declared.line.Judged.TheVariants.{NewProblem, NewArc}
use Rattle.dimacs_reader.specs.Judging.{Judges}
use Rattle.dimacs_reader.specs.Text.{problem_text, row_text, graph_text}
use Rattle.dimacs_reader.proofs.JudgeLemmas.{Judges-cut}
use Rattle.dimacs_reader.proofs.GrLemmas.{problem_in-nil, arcs_in-nil, problem_in-push, arcs_in-push, first_fault-nil, first_fault-cons, fault_at_state}
use Rattle.dimacs_reader.proofs.BuilderLemmas.{end_fault-full}
use Rattle.dimacs_reader.proofs.ReadLemmas.{gr_text-short, graph_of-graph}
use Rattle.dimacs_reader.proofs.FastLemmas.{digits_pass}

-- ---- digits

pub number_of-decimal : (n : ℕ) → n < 10 ^ 19 → number_of (decimal n) ≡ Some n
number_of-decimal n small =
    let fits : n < 2 ^ 64 = omega arith in
    number_of-digits (decimal n) (decimal_nonempty n fits) (length-decimal-le 19 n (lit< tt) small fits) (digits_decimal by_ascii_digits n fits)
    ∙ ap (λ (m : ℕ). Some m) (digits_value-decimal by_ascii_digits n fits)

digit_facts : (c : ℕ) → is_ascii_digit c ≡ true → (is_blank c ≡ false) × (c ≢ 10) × (c ≢ 13)
digit_facts c e = grind (arith, nat_tests)

digits_feedless : (ds : List ℕ) → all_ascii_digits ds ≡ true → HasNoFeed ds
digits_feedless [] h = tt
digits_feedless (d ∷ ds) h =
    let both = and_parts (is_ascii_digit d) (all_ascii_digits ds) h in
    ((digit_facts d both.0).1, digits_feedless ds both.1)

digits_unreturned : (ds : List ℕ) (i : ℕ) → all_ascii_digits ds ≡ true → i < length ds → get_or ds i 0 ≢ 13
digits_unreturned [] i h lt = absurd (omega arith)
digits_unreturned (d ∷ ds) zero h lt = (digit_facts d (and_parts (is_ascii_digit d) (all_ascii_digits ds) h).0).2
digits_unreturned (d ∷ ds) (suc i) h lt = digits_unreturned ds i (and_parts (is_ascii_digit d) (all_ascii_digits ds) h).1 (omega arith)

-- a line that ends in a number keeps its last byte
ends_in_number : (prefix : List ℕ) (n : ℕ) → n < 2 ^ 64 → without_return (prefix ++ decimal n) ≡ prefix ++ decimal n
ends_in_number prefix n fits =
    let some : 0 < length (decimal n) = decimal_nonempty n fits in
    let len = length-append prefix (decimal n) in
    let last : get_or (prefix ++ decimal n) (length (prefix ++ decimal n) - 1) 0 ≡ get_or (decimal n) (length (prefix ++ decimal n) - 1 - length prefix) 0 =
    get_or-append_right prefix (decimal n) (length prefix) (length (prefix ++ decimal n) - 1) 0 refl (omega arith) in
    without_return-plain (prefix ++ decimal n) (λ e. digits_unreturned (decimal n) (length (prefix ++ decimal n) - 1 - length prefix) (digits_decimal by_ascii_digits n fits) (omega arith) (sym last ∙ e))

feedless : (n : ℕ) → n < 2 ^ 64 → HasNoFeed (decimal n)
feedless n fits = digits_feedless (decimal n) (digits_decimal by_ascii_digits n fits)

-- a number and what stands after it
field_of : (n : ℕ) (rest : List ℕ) → n < 2 ^ 64 → fields_of (decimal n ++ 32 ∷ rest) ≡ decimal n ∷ fields_of rest
field_of n rest fits = fields_of-field (decimal n) 32 rest (decimal_nonempty n fits) (digits_pass (decimal n) (digits_decimal by_ascii_digits n fits)) refl

last_field_of : (n : ℕ) → n < 2 ^ 64 → fields_of (decimal n) ≡ decimal n ∷ []
last_field_of n fits = fields_of-last (decimal n) (decimal_nonempty n fits) (digits_pass (decimal n) (digits_decimal by_ascii_digits n fits))

-- ---- the lines

abbrev problem_line : ℕ → ℕ → List ℕ
problem_line vertices arcs = codes "p sp " ++ (decimal vertices ++ 32 ∷ decimal arcs)

abbrev row_line : ArcRow → List ℕ
row_line row = codes "a " ++ (decimal row.tail ++ 32 ∷ (decimal row.head ++ 32 ∷ decimal row.length))

-- the numbers of a row are small enough for a number's digits
record IsSmall (row : ArcRow) : Type 0 where
  tail : row.tail < 2 ^ 32
  head : row.head < 2 ^ 32
  len : row.length < 2 ^ 33

row_fields : (row : ArcRow) → IsSmall row → fields_of (row_line row) ≡ codes "a" ∷ decimal row.tail ∷ decimal row.head ∷ decimal row.length ∷ []
row_fields row small =
    fields_of-field (codes "a") 32 (decimal row.tail ++ 32 ∷ (decimal row.head ++ 32 ∷ decimal row.length)) (lit< tt) (refl, tt) refl
    ∙ ap (λ (fs : List (List ℕ)). codes "a" ∷ fs) (field_of row.tail (decimal row.head ++ 32 ∷ decimal row.length) (let h = small.tail in omega arith)
    ∙ ap (λ (fs : List (List ℕ)). decimal row.tail ∷ fs) (field_of row.head (decimal row.length) (let h = small.head in omega arith)
    ∙ ap (λ (fs : List (List ℕ)). decimal row.head ∷ fs) (last_field_of row.length (let h = small.len in omega arith))))

problem_fields : (vertices arcs : ℕ) → vertices < 2 ^ 32 → arcs < 2 ^ 32 → fields_of (problem_line vertices arcs) ≡ codes "p" ∷ codes "sp" ∷ decimal vertices ∷ decimal arcs ∷ []
problem_fields vertices arcs v a =
    fields_of-field (codes "p") 32 (codes "sp" ++ 32 ∷ (decimal vertices ++ 32 ∷ decimal arcs)) (lit< tt) (refl, tt) refl
    ∙ ap (λ (fs : List (List ℕ)). codes "p" ∷ fs) (fields_of-field (codes "sp") 32 (decimal vertices ++ 32 ∷ decimal arcs) (lit< tt) (refl, (refl, tt)) refl
    ∙ ap (λ (fs : List (List ℕ)). codes "sp" ∷ fs) (field_of vertices (decimal arcs) (omega arith)
    ∙ ap (λ (fs : List (List ℕ)). decimal vertices ∷ fs) (last_field_of arcs (omega arith))))

shown : (b : ℕ) (bs : List ℕ) → is_blank b ≡ false → is_byte (Some b) 99 ≡ false → is_comment (b ∷ bs) ≡ false
unfolding is_comment
shown b bs e f = ap (λ (o : Option ℕ). is_byte o 99) (first_byte-stop b bs e) ∙ f

-- ---- what the lines say

row_length : (row : ArcRow) → row.tail < 10 ^ 8 → row.head < 10 ^ 8 → row.length < 10 ^ 10 → length (row_line row) ≤ 30
row_length row t h l =
    let a = length-decimal-le 8 row.tail (lit< tt) t (omega arith) in
    let b = length-decimal-le 8 row.head (lit< tt) h (omega arith) in
    let c = length-decimal-le 10 row.length (lit< tt) l (omega arith) in
    omega (arith, length-append (decimal row.tail) (32 ∷ (decimal row.head ++ 32 ∷ decimal row.length)), length-append (decimal row.head) (32 ∷ decimal row.length))

problem_length : (vertices arcs : ℕ) → vertices < 2 ^ 32 → arcs < 2 ^ 32 → length (problem_line vertices arcs) ≤ 46
problem_length vertices arcs v a =
    let x = length-decimal-le 20 vertices (lit< tt) (omega arith) (omega arith) in
    let y = length-decimal-le 20 arcs (lit< tt) (omega arith) (omega arith) in
    omega (arith, length-append (decimal vertices) (32 ∷ decimal arcs))

-- an arc that fits the problem
record Fits (p : Problem) (row : ArcRow) : Type 0 where
  arc : IsArc p.vertices row
  short : row.length ≤ MAX_LENGTH
  few : p.vertices ≤ MAX_VERTICES

small_row : (p : Problem) (row : ArcRow) → Fits p row → (row.tail < 10 ^ 8) × (row.head < 10 ^ 8) × (row.length < 10 ^ 10)
small_row p row fits =
    let few = fits.few in
    let t = fits.arc.tail.last in
    let h = fits.arc.head.last in
    let l = fits.short in
    (omega arith, omega arith, omega arith)

fields_clean : (p : Problem) (count : ℕ) (row : ArcRow) → Fits p row → count < p.arcs → fields_fault (Some p) count (codes "a" ∷ decimal row.tail ∷ decimal row.head ∷ decimal row.length ∷ []) ≡ None
fields_clean p count row fits room =
    let small = small_row p row fits in
    let t0 : row.tail ≢ 0 = (let x = fits.arc.tail.first in omega arith) in
    let h0 : row.head ≢ 0 = (let x = fits.arc.head.first in omega arith) in
    let l0 : row.length ≢ 0 = (let x = fits.arc.positive in omega arith) in
    rw (
      number_of-decimal row.tail (let x = small.0 in omega arith),
      number_of-decimal row.head (let x = small.1 in omega arith),
      number_of-decimal row.length (let x = small.2 in omega arith),
      lt-leb p.arcs count room,
      ne_eqb row.tail 0 t0,
      ne_eqb row.head 0 h0,
      ne_eqb row.length 0 l0,
      le-ltb p.vertices row.tail fits.arc.tail.last,
      le-ltb p.vertices row.head fits.arc.head.last,
      le-ltb MAX_LENGTH row.length fits.short,
    ) refl

row_judged : (p : Problem) (count : ℕ) (row : ArcRow) → Fits p row → count < p.arcs → Judges (Some p) count (row_line row) (NewArc row)
row_judged p count row fits room =
    let small = small_row p row fits in
    let is_small : IsSmall row = record { tail = (let x = small.0 in omega arith); head = (let x = small.1 in omega arith); len = (let x = small.2 in omega arith) } in
    Judges-cut (Some p) count (row_line row) _ (NewArc row) (shown 97 _ refl refl)
    (let x = row_length row small.0 small.1 small.2 in omega arith)
    (row_fields row is_small) (
      fields_clean p count row fits room,
      refl,
      (rw (number_of-decimal row.tail (let x = small.0 in omega arith), number_of-decimal row.head (let x = small.1 in omega arith), number_of-decimal row.length (let x = small.2 in omega arith)) refl),
      record { arc = fits.arc; short = fits.short; room = room },
    )

problem_judged : (p : Problem) → p.vertices ≤ MAX_VERTICES → p.arcs ≤ MAX_ARCS → Judges None 0 (problem_line p.vertices p.arcs) (NewProblem p)
problem_judged p few_vertices few_arcs =
    let v : p.vertices < 10 ^ 19 = omega arith in
    let a : p.arcs < 10 ^ 19 = omega arith in
    Judges-cut None 0 (problem_line p.vertices p.arcs) _ (NewProblem p) (shown 112 _ refl refl)
    (let x = problem_length p.vertices p.arcs (omega arith) (omega arith) in omega arith)
    (problem_fields p.vertices p.arcs (omega arith) (omega arith)) (
      (rw (number_of-decimal p.vertices v, number_of-decimal p.arcs a, le-ltb MAX_VERTICES p.vertices few_vertices, le-ltb MAX_ARCS p.arcs few_arcs) refl),
      (rw (number_of-decimal p.vertices v, number_of-decimal p.arcs a) refl),
      refl,
      refl,
      record { few_vertices = few_vertices; few_arcs = few_arcs },
    )

-- ---- all the lines

record ReadsRows (p : Problem) (before : List (List ℕ)) (done rows : List ArcRow) : Type 0 where
  clean : first_fault before (map row_line rows) ≡ None
  problem : problem_in (before ++ map row_line rows) ≡ Some p
  arcs : arcs_in (before ++ map row_line rows) ≡ done ++ rows

rows_read : (p : Problem) (before : List (List ℕ)) (done rows : List ArcRow) → problem_in before ≡ Some p → arcs_in before ≡ done → length done + length rows ≤ p.arcs → AllByRecursion (Fits p) rows → ReadsRows p before done rows
rows_read p before done [] problem arcs room fits = record {
  clean = first_fault-nil before;
  problem = ap problem_in (append-nil before) ∙ problem;
  arcs = ap arcs_in (append-nil before) ∙ arcs ∙ sym (append-nil done);
}
rows_read p before done (row ∷ rows) problem arcs room fits =
    let line : List ℕ = row_line row in
    let judged = row_judged p (length done) row fits.0 (omega arith) in
    let fault : fault_of before line ≡ None = fault_at_state before line (Some p) (length done) problem (ap length arcs) judged.0 in
    let now : List (List ℕ) = before ++ line ∷ [] in
    let problem' : problem_in now ≡ Some p = problem_in-push before line ∙ ap (λ (o : Option Problem). option_or o (problem_of line)) problem in
    let arcs' : arcs_in now ≡ done ++ row ∷ [] = arcs_in-push before line ∙ ap (λ (rs : List ArcRow). rs ++ cons_option (arc_of line) []) arcs ∙ ap (λ (o : Option ArcRow). done ++ cons_option o []) judged.2 in
    let later = rows_read p now (done ++ row ∷ []) rows problem' arcs' (omega (arith, length_push done row)) fits.1 in
    let joined : now ++ map row_line rows ≡ before ++ (line ∷ map row_line rows) = append_assoc before (line ∷ []) (map row_line rows) in
    record {
      clean = first_fault-cons before (map row_line rows) line ∙ ap (λ (k : Option GraphKind). or_later before k (first_fault now (map row_line rows))) fault ∙ later.clean;
      problem = ap problem_in (sym joined) ∙ later.problem;
      arcs = ap arcs_in (sym joined) ∙ later.arcs ∙ append_assoc done (row ∷ []) rows;
    }

row_feedless : (row : ArcRow) → IsSmall row → HasNoFeed (row_line row)
row_feedless row small =
    let t = small.tail in
    let h = small.head in
    let l = small.len in
    let P : ℕ → Type 0 = λ b. b ≢ 10 in
    HasNoFeed-append (codes "a ") (decimal row.tail ++ 32 ∷ (decimal row.head ++ 32 ∷ decimal row.length)) (eqb-false 97 10 refl, (eqb-false 32 10 refl, tt))
    (HasNoFeed-append (decimal row.tail) (32 ∷ (decimal row.head ++ 32 ∷ decimal row.length)) (feedless row.tail (omega arith))
    (eqb-false 32 10 refl, HasNoFeed-append (decimal row.head) (32 ∷ decimal row.length) (feedless row.head (omega arith)) (eqb-false 32 10 refl, feedless row.length (omega arith))))

problem_feedless : (vertices arcs : ℕ) → vertices < 2 ^ 32 → arcs < 2 ^ 32 → HasNoFeed (problem_line vertices arcs)
problem_feedless vertices arcs v a =
    HasNoFeed-append (codes "p sp ") (decimal vertices ++ 32 ∷ decimal arcs) (eqb-false 112 10 refl, (eqb-false 32 10 refl, (eqb-false 115 10 refl, (eqb-false 112 10 refl, (eqb-false 32 10 refl, tt)))))
    (HasNoFeed-append (decimal vertices) (32 ∷ decimal arcs) (feedless vertices (omega arith)) (eqb-false 32 10 refl, feedless arcs (omega arith)))

row_text-is : (row : ArcRow) (rest : List ℕ) → row_text row ++ rest ≡ row_line row ++ 10 ∷ rest
row_text-is row rest = simp append_assoc

problem_text-is : (vertices arcs : ℕ) (rest : List ℕ) → problem_text vertices arcs ++ rest ≡ problem_line vertices arcs ++ 10 ∷ rest
problem_text-is vertices arcs rest = simp append_assoc

row_kept : (row : ArcRow) → IsSmall row → without_return (row_line row) ≡ row_line row
row_kept row small =
    let prefix : List ℕ = codes "a " ++ (decimal row.tail ++ 32 ∷ (decimal row.head ++ 32 ∷ [])) in
    let is : row_line row ≡ prefix ++ decimal row.length = simp append_assoc in
    ap without_return is ∙ ends_in_number prefix row.length (let l = small.len in omega arith) ∙ sym is

problem_kept : (vertices arcs : ℕ) → arcs < 2 ^ 32 → without_return (problem_line vertices arcs) ≡ problem_line vertices arcs
problem_kept vertices arcs a =
    let prefix : List ℕ = codes "p sp " ++ (decimal vertices ++ 32 ∷ []) in
    let is : problem_line vertices arcs ≡ prefix ++ decimal arcs = simp append_assoc in
    ap without_return is ∙ ends_in_number prefix arcs (omega arith) ∙ sym is

rows_lines : (rows : List ArcRow) → AllByRecursion IsSmall rows → lines_of (flat_map row_text rows) ≡ map row_line rows
rows_lines [] small = lines_of-nil
rows_lines (row ∷ rows) small =
    ap lines_of (row_text-is row (flat_map row_text rows))
    ∙ lines_of-line (row_line row) (flat_map row_text rows) (row_feedless row small.0)
    ∙ ap (λ (l : List ℕ). l ∷ lines_of (flat_map row_text rows)) (row_kept row small.0)
    ∙ ap (λ (ls : List (List ℕ)). row_line row ∷ ls) (rows_lines rows small.1)

rows_length : (p : Problem) (rows : List ArcRow) → AllByRecursion (Fits p) rows → length (flat_map row_text rows) ≤ 31 * length rows
rows_length p [] fits = omega arith
rows_length p (row ∷ rows) fits =
    let small = small_row p row fits.0 in
    let one = row_length row small.0 small.1 small.2 in
    let later = rows_length p rows fits.1 in
    omega (arith, ap length (row_text-is row (flat_map row_text rows)), length-append (row_line row) (10 ∷ flat_map row_text rows))

-- ---- the whole text

abbrev problem_for : Graph → Problem
problem_for g = record { vertices = g.vertices; arcs = length g.arcs }

all_fit : (g : Graph) (rows : List ArcRow) → g.vertices ≤ MAX_VERTICES → All (IsArc g.vertices) rows → All (λ (r : ArcRow). r.length < 4294967296) rows → AllByRecursion (Fits (problem_for g)) rows
all_fit g [] few arcs short = tt
all_fit g (row ∷ rows) few arcs short = (
  record { arc = All-head (IsArc g.vertices) row rows arcs; short = (let x = All-head (λ (r : ArcRow). r.length < 4294967296) row rows short in omega arith); few = few },
  all_fit g rows few (All-tail (IsArc g.vertices) row rows arcs) (All-tail (λ (r : ArcRow). r.length < 4294967296) row rows short),
)

all_small : (p : Problem) (rows : List ArcRow) → AllByRecursion (Fits p) rows → AllByRecursion IsSmall rows
all_small p [] fits = tt
all_small p (row ∷ rows) fits =
    let small = small_row p row fits.0 in
    (record { tail = (let x = small.0 in omega arith); head = (let x = small.1 in omega arith); len = (let x = small.2 in omega arith) }, all_small p rows fits.1)

-- what is written of a graph within the limits is read as that graph
pub gr_text-graph_text : (g : Graph) → IsWithinLimits g → gr_text (graph_text g) ≡ Ok g
unfolding graph_text
gr_text-graph_text g limits =
    let v : g.vertices ≤ MAX_VERTICES = limits.few_vertices in
    let m : length g.arcs ≤ MAX_ARCS = limits.few_arcs in
    let p : Problem = problem_for g in
    let head : List ℕ = problem_line g.vertices (length g.arcs) in
    let rest : List ℕ = flat_map row_text g.arcs in
    let fits = all_fit g g.arcs v limits.is_graph limits.short in
    let parts : problem_text g.vertices (length g.arcs) ++ rest ≡ head ++ 10 ∷ rest = problem_text-is g.vertices (length g.arcs) rest in
    let lines : lines_of (problem_text g.vertices (length g.arcs) ++ rest) ≡ head ∷ map row_line g.arcs =
    ap lines_of parts ∙ lines_of-line head rest (problem_feedless g.vertices (length g.arcs) (omega arith) (omega arith))
    ∙ ap (λ (l : List ℕ). l ∷ lines_of rest) (problem_kept g.vertices (length g.arcs) (omega arith))
    ∙ ap (λ (ls : List (List ℕ)). head ∷ ls) (rows_lines g.arcs (all_small p g.arcs fits)) in
    let short : length (problem_text g.vertices (length g.arcs) ++ rest) ≤ MAX_FILE =
    omega (arith, ap length parts, length-append head (10 ∷ rest), problem_length g.vertices (length g.arcs) (omega arith) (omega arith), rows_length p g.arcs fits) in
    let judged = problem_judged p v m in
    let fault : fault_of [] head ≡ None = fault_at_state [] head None 0 problem_in-nil (ap length arcs_in-nil) judged.0 in
    let problem : problem_in (head ∷ []) ≡ Some p = problem_in-push [] head ∙ ap (λ (o : Option Problem). option_or o (problem_of head)) problem_in-nil ∙ judged.1 in
    let arcs : arcs_in (head ∷ []) ≡ [] = arcs_in-push [] head ∙ ap (λ (rs : List ArcRow). rs ++ cons_option (arc_of head) []) arcs_in-nil ∙ ap (λ (o : Option ArcRow). cons_option o []) judged.2 in
    let read = rows_read p (head ∷ []) [] g.arcs problem arcs (omega arith) fits in
    let clean : first_fault [] (head ∷ map row_line g.arcs) ≡ None =
    first_fault-cons [] (map row_line g.arcs) head ∙ ap (λ (k : Option GraphKind). or_later [] k (first_fault (head ∷ []) (map row_line g.arcs))) fault ∙ read.clean in
    let full : end_fault (head ∷ map row_line g.arcs) ≡ None = end_fault-full (head ∷ map row_line g.arcs) p read.problem (omega (arith, ap length read.arcs)) in
    gr_text-short (problem_text g.vertices (length g.arcs) ++ rest) short ∙ ap graph_of lines
    ∙ graph_of-graph (head ∷ map row_line g.arcs) g clean full (sym (ap vertices_of read.problem)) (sym read.arcs)
