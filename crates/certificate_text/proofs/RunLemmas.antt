-- Lines that ran through begin a certificate, and each certificate's lines run through.
use Rattle.std.proofs.Common.{◌≡◌, ℕ, ◌<◌, List, [], ◌∷◌, ◌++◌, length, map, Option, Some, None, refl, sym, ap, subst, ◌∙◌, append_assoc, rules, arith}
use Rattle.std.specs.List.{AllByRecursion}
use Rattle.std.proofs.lemmas.List.{append-nil, map_push, map-append, length_push}
use Rattle.std.proofs.lemmas.List.Concat.{flat_map-append}
use Rattle.std.proofs.lemmas.Option.{same_Some}
use Rattle.road_model.specs.declared.request.CursorQuery.{CursorQuery}
use Rattle.certificate_text.specs.declared.certificate.Block.{Block}
use Rattle.certificate_text.specs.declared.certificate.BlockKind.TheVariants.{From}
use Rattle.certificate_text.specs.declared.certificate.Finding.TheVariants as finding
use Rattle.certificate_text.specs.declared.certificate.Certificate.{Certificate}
use Rattle.certificate_text.specs.declared.order.Progress.{Progress}
use Rattle.certificate_text.specs.declared.order.Progress.TheVariants as progress
use Rattle.certificate_text.specs.Texts.{Line, Version, Counts, Asks, Heads, Row, End, None_found, Optimum, Route, Via, Done, block_lines, blocks_lines, lines_of, line_text}
use Rattle.certificate_text.specs.Words.{◌>>=◌, line_of}
use Rattle.certificate_text.specs.Order.{step, step_raw, run, run_raw, opening_lines, lines_in, IsReached}
use Rattle.certificate_text.specs.Reading.{HasNumbers, Fits, texts_of, Begins, IsWhole}
use Rattle.certificate_text.specs.Gathering.{IsRun, IsOpen}
use Rattle.certificate_text.proofs.LineLemmas.{line_of-again, line_of-takes}
use Rattle.certificate_text.proofs.OrderLemmas.{step_stepped, certificate_run, end_lines}

-- ---- raw lines run as the lines that they say

pub step_raw-is : (p : Progress) (raw : List ℕ) (line : Line) → line_of raw ≡ Some line → step_raw p raw ≡ step p line
unfolding step_raw
step_raw-is p raw line e = ap (λ (o : Option Line). o >>= λ l. step p l) e

run_raw-texts : (lines : List Line) (p : Progress) → AllByRecursion HasNumbers lines → run_raw p (map line_text lines) ≡ run p lines
unfolding run run_raw
run_raw-texts [] p small = refl
run_raw-texts (line ∷ lines) p small =
    ap (λ (o : Option Progress). o >>= λ next. run_raw next (map line_text lines)) (step_raw-is p (line_text line) line (line_of-again line small.0))
    ∙ elim (step p line) as (λ o. (o >>= λ next. run_raw next (map line_text lines)) ≡ (o >>= λ next. run next lines)) [ None ↦ refl | Some q ↦ run_raw-texts lines q small.1 ]

run_raw-append : (xs ys : List (List ℕ)) (p : Progress) → run_raw p (xs ++ ys) ≡ (run_raw p xs >>= λ q. run_raw q ys)
unfolding run_raw
run_raw-append [] ys p = refl
run_raw-append (x ∷ xs) ys p =
    elim (step_raw p x) as (λ o. (o >>= λ q. run_raw q (xs ++ ys)) ≡ ((o >>= λ q. run_raw q xs) >>= λ q. run_raw q ys)) [ None ↦ refl | Some q ↦ run_raw-append xs ys q ]

run_raw-one : (raw : List ℕ) (p : Progress) → run_raw p (raw ∷ []) ≡ step_raw p raw
unfolding run_raw
run_raw-one raw p = elim (step_raw p raw) as (λ o. (o >>= λ q. Some q) ≡ o) [ None ↦ refl | Some q ↦ refl ]

run_raw-push : (raws : List (List ℕ)) (raw : List ℕ) (p : Progress) → run_raw progress.Start raws ≡ Some p → run_raw progress.Start (raws ++ raw ∷ []) ≡ step_raw p raw
run_raw-push raws raw p e =
    run_raw-append raws (raw ∷ []) progress.Start ∙ ap (λ (o : Option Progress). o >>= λ q. run_raw q (raw ∷ [])) e ∙ run_raw-one raw p

certificate_runs : (c : Certificate) → Fits c → run_raw progress.Start (texts_of c) ≡ Some (progress.Whole c)
certificate_runs c fits = run_raw-texts (lines_of c) progress.Start fits.numbers ∙ certificate_run c fits.some_block

-- ---- one raw line on

numbers-append : (xs ys : List Line) → AllByRecursion HasNumbers xs → AllByRecursion HasNumbers ys → AllByRecursion HasNumbers (xs ++ ys)
numbers-append [] ys h k = k
numbers-append (x ∷ xs) ys h k = (h.0, numbers-append xs ys h.1 k)

run_raw-nil : run_raw progress.Start [] ≡ Some progress.Start
unfolding run_raw
run_raw-nil = refl

pub IsRun-start : IsRun [] progress.Start
IsRun-start = record { ran = run_raw-nil; texts = refl; numbers = tt; reached = tt }

pub IsRun-push : (raws : List (List ℕ)) (raw : List ℕ) (p q : Progress) (line : Line) → IsRun raws p → line_of raw ≡ Some line → step p line ≡ Some q → IsRun (raws ++ raw ∷ []) q
IsRun-push raws raw p q line run e f =
    let one = step_stepped p line q f in
    let said = line_of-takes raw line e in
    record {
      ran = run_raw-push raws raw p run.ran ∙ step_raw-is p raw line e ∙ f;
      texts =
          ap (λ (ls : List Line). map line_text ls) one.lines ∙ map_push line_text (lines_in p) line
          ∙ ap (λ (ts : List (List ℕ)). ts ++ line_text line ∷ []) run.texts ∙ ap (λ (t : List ℕ). raws ++ t ∷ []) said.0;
      numbers = subst (λ (ls : List Line). AllByRecursion HasNumbers ls) (sym one.lines) (numbers-append (lines_in p) (line ∷ []) run.numbers (said.1, tt));
      reached = one.reached run.reached;
    }

-- ---- what was read begins a certificate

record Completes (p : Progress) (c : Certificate) (more : List Line) : Type 0 where
  some_block : 0 < length c.blocks
  numbers : AllByRecursion HasNumbers more
  is : lines_of c ≡ lines_in p ++ more

abbrev no_query : CursorQuery
no_query = record { from = 0; to = 0; gamma = (0, 0); alpha = (0, 0); epsilon = (0, 0) }

abbrev no_block : Block
no_block = record { kind = From; root = 0; radius = None; rows = [] }

abbrev last_lines : List Line
last_lines = Heads From 0 None ∷ End ∷ None_found ∷ Done ∷ []

abbrev nothing_found : ℕ → ℕ → CursorQuery → List Block → Certificate
nothing_found n m q blocks = record { vertices = n; arcs = m; query = q; blocks = blocks; finding = finding.Nothing }

some-push : (blocks : List Block) (block : Block) → 0 < length (blocks ++ block ∷ [])
some-push blocks block = omega (arith, length_push blocks block)

completed : (p : Progress) → IsReached p → (c : Certificate) × (more : List Line) × Completes p c more
completed progress.Start reached = (nothing_found 0 0 no_query (no_block ∷ []), Version ∷ Counts 0 0 ∷ Asks no_query ∷ last_lines, record { some_block = omega arith; numbers = search rules; is = refl })
completed progress.Named reached = (nothing_found 0 0 no_query (no_block ∷ []), Counts 0 0 ∷ Asks no_query ∷ last_lines, record { some_block = omega arith; numbers = search rules; is = refl })
completed (progress.Counted n m) reached = (nothing_found n m no_query (no_block ∷ []), Asks no_query ∷ last_lines, record { some_block = omega arith; numbers = search rules; is = refl })
completed (progress.Between opening) reached = (
  nothing_found opening.vertices opening.arcs opening.query (opening.blocks ++ no_block ∷ []),
  last_lines,
  record {
    some_block = some-push opening.blocks no_block;
    numbers = search rules;
    is = ap (λ (ls : List Line). Version ∷ Counts opening.vertices opening.arcs ∷ Asks opening.query ∷ (ls ++ None_found ∷ Done ∷ [])) (flat_map-append block_lines opening.blocks (no_block ∷ []))
        ∙ ap (λ (ls : List Line). Version ∷ Counts opening.vertices opening.arcs ∷ Asks opening.query ∷ ls) (append_assoc (blocks_lines opening.blocks) (Heads From 0 None ∷ End ∷ []) (None_found ∷ Done ∷ []));
  },
)
completed (progress.Inside opening block) reached = (
  nothing_found opening.vertices opening.arcs opening.query (opening.blocks ++ block ∷ []),
  End ∷ None_found ∷ Done ∷ [],
  record {
    some_block = some-push opening.blocks block;
    numbers = search rules;
    is = ap (λ (ls : List Line). Version ∷ Counts opening.vertices opening.arcs ∷ Asks opening.query ∷ (ls ++ None_found ∷ Done ∷ [])) (end_lines opening.blocks block)
        ∙ ap (λ (ls : List Line). Version ∷ Counts opening.vertices opening.arcs ∷ Asks opening.query ∷ ls) (append_assoc (blocks_lines opening.blocks ++ Heads block.kind block.root block.radius ∷ map Row block.rows) (End ∷ []) (None_found ∷ Done ∷ []));
  },
)
completed (progress.NoneFound opening) reached = (
  nothing_found opening.vertices opening.arcs opening.query opening.blocks,
  Done ∷ [],
  record {
    some_block = reached;
    numbers = search rules;
    is = sym (append_assoc (opening_lines opening) (None_found ∷ []) (Done ∷ []));
  },
)
completed (progress.Found opening a) reached = (
  record { vertices = opening.vertices; arcs = opening.arcs; query = opening.query; blocks = opening.blocks; finding = finding.Found a.length a.arcs a.routes a.vias },
  Done ∷ [],
  record {
    some_block = reached;
    numbers = search rules;
    is = sym (append_assoc (opening_lines opening) (Optimum a.length a.arcs ∷ (map Route a.routes ++ map Via a.vias)) (Done ∷ []));
  },
)
completed (progress.Whole c) reached = (c, [], record { some_block = reached; numbers = tt; is = sym (append-nil (lines_of c)) })

pub begins_run : (raws : List (List ℕ)) (p : Progress) → IsRun raws p → Begins raws
begins_run raws p run =
    let (c, more, done) = completed p run.reached in
    record {
      certificate = c;
      fits = record {
        numbers = subst (λ (ls : List Line). AllByRecursion HasNumbers ls) (sym done.is) (numbers-append (lines_in p) more run.numbers done.numbers);
        some_block = done.some_block;
      };
      more = map line_text more;
      is = ap (λ (ls : List Line). map line_text ls) done.is ∙ map-append line_text (lines_in p) more ∙ ap (λ (ts : List (List ℕ)). ts ++ map line_text more) run.texts;
    }

-- ---- a line that is refused begins none

pub begins_not : (raws : List (List ℕ)) (raw : List ℕ) (p : Progress) → IsRun raws p → step_raw p raw ≡ None → Begins (raws ++ raw ∷ []) → ⊥
begins_not raws raw p run e begun =
    let c = begun.certificate in
    let whole : run_raw progress.Start (texts_of c) ≡ Some (progress.Whole c) = certificate_runs c begun.fits in
    let stuck : run_raw progress.Start (texts_of c) ≡ None =
    ap (run_raw progress.Start) begun.is ∙ run_raw-append (raws ++ raw ∷ []) begun.more progress.Start
    ∙ ap (λ (o : Option Progress). o >>= λ q. run_raw q begun.more) (run_raw-push raws raw p run.ran ∙ e) in
    cc

pub whole_not : (raws : List (List ℕ)) (p : Progress) → IsRun raws p → IsOpen p → IsWhole raws → ⊥
whole_not raws p run opened all =
    let c = all.certificate in
    let same : p ≡ progress.Whole c = same_Some p (progress.Whole c) (sym run.ran ∙ ap (run_raw progress.Start) (sym all.is) ∙ certificate_runs c all.fits) in
    subst (λ (q : Progress). IsOpen q) same opened

pub step_raw-wrong : (p : Progress) (raw : List ℕ) → line_of raw ≡ None → step_raw p raw ≡ None
unfolding step_raw
step_raw-wrong p raw e = ap (λ (o : Option Line). o >>= λ l. step p l) e

pub step_raw-refused : (p : Progress) (raw : List ℕ) (line : Line) → line_of raw ≡ Some line → step p line ≡ None → step_raw p raw ≡ None
step_raw-refused p raw line e f = step_raw-is p raw line e ∙ f

pub step_raw-whole : (c : Certificate) (raw : List ℕ) → step_raw (progress.Whole c) raw ≡ None
unfolding step_raw
step_raw-whole c raw = elim (line_of raw) as (λ o. (o >>= λ l. step (progress.Whole c) l) ≡ None) [ None ↦ refl | Some l ↦ refl ]

pub whole_fits : (raws : List (List ℕ)) (c : Certificate) → IsRun raws (progress.Whole c) → Fits c
whole_fits raws c run = record { numbers = run.numbers; some_block = run.reached }

pub is_whole : (raws : List (List ℕ)) (c : Certificate) → IsRun raws (progress.Whole c) → IsWhole raws
is_whole raws c run = record { certificate = c; fits = whole_fits raws c run; is = run.texts }

-- what a raw line that was taken says
pub step_raw-some : (p : Progress) (raw : List ℕ) (q : Progress) → step_raw p raw ≡ Some q → (line : Line) × (line_of raw ≡ Some line) × (step p line ≡ Some q)
unfolding step_raw
step_raw-some p raw q e =
    (elim (line_of raw) as (λ o. (o >>= λ l. step p l) ≡ Some q → (line : Line) × (o ≡ Some line) × (step p line ≡ Some q)) [ None ↦ λ f. absurd (cc) | Some l ↦ λ f. (l, refl, f) ]) e

pub not_whole : (p : Progress) → ((c : Certificate) → p ≡ progress.Whole c → ⊥) → IsOpen p
not_whole progress.Start h = tt
not_whole progress.Named h = tt
not_whole (progress.Counted n m) h = tt
not_whole (progress.Between opening) h = tt
not_whole (progress.Inside opening block) h = tt
not_whole (progress.NoneFound opening) h = tt
not_whole (progress.Found opening a) h = tt
not_whole (progress.Whole c) h = h c refl
