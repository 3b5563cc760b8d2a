-- What a text comes to, by how far it was read.
use Rattle.std.proofs.Common.{◌≡◌, ℕ, ◌+◌, ◌<◌, List, [], ◌∷◌, ◌++◌, length, map, take, Some, None, Ok, Err, refl, sym, ap, subst, ◌∙◌, append_assoc, inl, inr, arith}
use Rattle.std.specs.List.{flat_map}
use Rattle.std.proofs.Math.Seq.{take-append-add}
use Rattle.std.proofs.lemmas.List.{append-nil, length-append, length_push, take_at, take_all}
use Rattle.std.proofs.lemmas.List.Concat.{flat_map-append}
use Rattle.road_text.specs.Lines.{HasNoFeed, whole_raw_lines}
use Rattle.road_text.specs.Reader.{IsLine, IsCutOff, IsSpent}
use Rattle.road_text.proofs.LineLemmas.{whole_raw_lines-line, whole_raw_lines-none}
use Rattle.certificate_text.specs.declared.certificate.Certificate.{Certificate}
use Rattle.certificate_text.specs.declared.certificate.TheConstants.{MAX_CERTIFICATE}
use Rattle.certificate_text.specs.declared.fault.CertKind.TheVariants as kind
use Rattle.certificate_text.specs.declared.order.Progress.{Progress}
use Rattle.certificate_text.specs.declared.order.Progress.TheVariants as progress
use Rattle.certificate_text.specs.declared.raw_lines.RawLines.{RawLines}
use Rattle.certificate_text.specs.declared.raw_lines.Step.{Step}
use Rattle.certificate_text.specs.declared.raw_lines.Step.TheVariants as step
use Rattle.certificate_text.specs.declared.fault.CertKind.{CertKind}
use Rattle.certificate_text.specs.declared.fault.CertError.{CertError}
use Rattle.certificate_text.specs.declared.fault.CertError.TheVariants.{Refused}
use Rattle.certificate_text.specs.declared.read.Gathered.{Gathered}
use Rattle.certificate_text.specs.declared.read.Gathered.TheVariants.{More, All}
use Rattle.certificate_text.specs.Texts.{Line, lines_of, line_text, certificate_text}
use Rattle.certificate_text.specs.Order.{step_raw}
use Rattle.certificate_text.specs.RawLines.{held, raw_of, budget, IsFreshReader, IsRest, Steps}
use Rattle.certificate_text.specs.Reading.{Begins, IsWhole, seen_lines, IsWrongLine, IsCut, IsFaultAfter, IsReadSoFar, IsCertificate, Reads}
use Rattle.certificate_text.specs.Gathering.{IsRun, IsOpen, with_feed, IsPast, Gathers, IsMore, IsSorted, GathersOn}
use Rattle.certificate_text.proofs.RunLemmas.{IsRun-start, IsRun-push, step_raw-some, begins_run, begins_not, whole_not, step_raw-whole, whole_fits}

-- ---- how far a text was read

pub Gathers-fresh : (r : RawLines) (text : List ℕ) → IsFreshReader r → Gathers (budget r) text (held r ++ text) progress.Start 0
Gathers-fresh r text fresh = record {
  before = [];
  past = record {
    given = [];
    is = ap (λ (h : List ℕ). h ++ text) (sym fresh.empty);
    lines = refl;
    whole = λ more. refl;
    count = (let e = fresh.whole in omega arith);
  };
  ran = IsRun-start;
  counted = refl;
}

-- one line on
pub IsPast-line : (spare new : ℕ) (text rest raw beyond : List ℕ) (before : List (List ℕ)) → IsPast spare text rest before → IsLine rest raw beyond → new + (length raw + 1) ≡ spare → IsPast new text beyond (before ++ raw ∷ [])
IsPast-line spare new text rest raw beyond before past line count =
    let given : List ℕ = past.given in
    let joined : (more : List ℕ) → (given ++ (raw ++ 10 ∷ [])) ++ more ≡ given ++ (raw ++ 10 ∷ more) =
    λ more. append_assoc given (raw ++ 10 ∷ []) more ∙ ap (λ (r : List ℕ). given ++ r) (append_assoc raw (10 ∷ []) more) in
    record {
      given = given ++ (raw ++ 10 ∷ []);
      is = past.is ∙ ap (λ (r : List ℕ). given ++ r) line.is ∙ sym (joined beyond);
      lines =
          ap (λ (g : List ℕ). g ++ with_feed raw) past.lines
          ∙ ap (λ (t : List ℕ). flat_map with_feed before ++ t) (sym (append-nil (with_feed raw)))
          ∙ sym (flat_map-append with_feed before (raw ∷ []));
      whole = λ more.
          ap whole_raw_lines (joined more) ∙ past.whole (raw ++ 10 ∷ more)
          ∙ ap (λ (ls : List (List ℕ)). before ++ ls) (whole_raw_lines-line raw more line.no_feed)
          ∙ sym (append_assoc before (raw ∷ []) (whole_raw_lines more));
      count = (let e = past.count in omega (arith, length-append given (raw ++ 10 ∷ []), length-append raw (10 ∷ [])));
    }

take-beyond : (a b : List ℕ) (n spare : ℕ) → length a + spare ≡ n → take n (a ++ b) ≡ a ++ take spare b
take-beyond a b n spare e = ap (λ (k : ℕ). take k (a ++ b)) (sym e) ∙ take-append-add a b spare

-- the lines that end within as many bytes as a certificate may have
seen-is : (spare : ℕ) (text rest : List ℕ) (before : List (List ℕ)) → IsPast spare text rest before → seen_lines text ≡ before ++ whole_raw_lines (take spare rest)
seen-is spare text rest before past =
    ap (λ (t : List ℕ). whole_raw_lines (take MAX_CERTIFICATE t)) past.is
    ∙ ap whole_raw_lines (take-beyond past.given rest MAX_CERTIFICATE spare past.count)
    ∙ past.whole (take spare rest)

-- no line feed comes within them any more
seen-all : (spare : ℕ) (text rest : List ℕ) (before : List (List ℕ)) → IsPast spare text rest before → HasNoFeed (take spare rest) → seen_lines text ≡ before
seen-all spare text rest before past none =
    seen-is spare text rest before past ∙ ap (λ (ls : List (List ℕ)). before ++ ls) (whole_raw_lines-none (take spare rest) none) ∙ append-nil before

-- ---- faults

take-opening : (before : List (List ℕ)) (raw : List ℕ) (more : List (List ℕ)) → take (length before) ((before ++ raw ∷ []) ++ more) ≡ before
take-opening before raw more = ap (take (length before)) (append_assoc before (raw ∷ []) more) ∙ take_at before (raw ∷ more) (length before) refl

take-one : (before : List (List ℕ)) (raw : List ℕ) (more : List (List ℕ)) → take (length before + 1) ((before ++ raw ∷ []) ++ more) ≡ before ++ raw ∷ []
take-one before raw more = take_at (before ++ raw ∷ []) more (length before + 1) (length_push before raw)

wrong_line : (text raw : List ℕ) (before more : List (List ℕ)) (p : Progress) → seen_lines text ≡ (before ++ raw ∷ []) ++ more → IsRun before p → step_raw p raw ≡ None → IsWrongLine text (length before)
wrong_line text raw before more p seen run none = record {
  inside = omega (arith, ap length seen, length-append (before ++ raw ∷ []) more, length_push before raw);
  before = subst Begins (sym (ap (take (length before)) seen ∙ take-opening before raw more)) (begins_run before p run);
  wrong = λ begun. begins_not before raw p run none (subst Begins (ap (take (length before + 1)) seen ∙ take-one before raw more) begun);
}

pub fault_syntax : (spare new count : ℕ) (text rest raw beyond : List ℕ) (p : Progress) (g : Gathers spare text rest p count) → IsLine rest raw beyond → new + (length raw + 1) ≡ spare → step_raw p raw ≡ None → IsFaultAfter text count kind.Syntax
fault_syntax spare new count text rest raw beyond p g line taken none =
    let past = IsPast-line spare new text rest raw beyond g.before g.past line taken in
    subst (λ (k : ℕ). IsFaultAfter text k kind.Syntax) g.counted
    (inl (wrong_line text raw g.before (whole_raw_lines (take new beyond)) p (seen-is new text beyond (g.before ++ raw ∷ []) past) g.ran none))

cut_off : (text : List ℕ) (before : List (List ℕ)) (p : Progress) → seen_lines text ≡ before → IsRun before p → IsOpen p → IsCut text
cut_off text before p seen run opened = record {
  begun = subst Begins (sym seen) (begins_run before p run);
  cut = λ all. whole_not before p run opened (subst IsWhole seen all);
}

pub fault_truncated : (spare count : ℕ) (text rest raw after : List ℕ) (p : Progress) (g : Gathers spare text rest p count) → IsRest rest raw after spare → IsOpen p → IsFaultAfter text count kind.Truncated
fault_truncated spare count text rest raw after p g end' opened =
    let whole : take spare rest ≡ raw = ap (take spare) end'.is ∙ take_all spare raw end'.short in
    let seen = seen-all spare text rest g.before g.past (subst HasNoFeed (sym whole) end'.no_feed) in
    let short = end'.short in
    let given = g.past.count in
    subst (λ (k : ℕ). IsFaultAfter text k kind.Truncated) g.counted (
      ap length (sym seen),
      omega (arith, ap length g.past.is, length-append g.past.given rest, ap length end'.is),
      cut_off text g.before p seen g.ran opened,
    )

pub fault_long : (spare count : ℕ) (text rest raw after : List ℕ) (byte : ℕ) (p : Progress) (g : Gathers spare text rest p count) → IsSpent rest raw after byte spare → IsOpen p → IsFaultAfter text count kind.Long
fault_long spare count text rest raw after byte p g spent opened =
    let whole : take spare rest ≡ raw = ap (take spare) spent.is ∙ take_at raw (byte ∷ after) spare spent.count in
    let seen = seen-all spare text rest g.before g.past (subst HasNoFeed (sym whole) spent.no_feed) in
    let given = g.past.count in
    let full = spent.count in
    subst (λ (k : ℕ). IsFaultAfter text k kind.Long) g.counted (
      ap length (sym seen),
      omega (arith, ap length g.past.is, length-append g.past.given rest, ap length spent.is, length-append raw (byte ∷ after)),
      cut_off text g.before p seen g.ran opened,
    )

pub read_so_far : (spare count : ℕ) (text rest raw after : List ℕ) (p : Progress) (g : Gathers spare text rest p count) → IsCutOff rest raw after → IsReadSoFar text after
read_so_far spare count text rest raw after p g cut = record {
  taken = g.past.given ++ raw;
  is = g.past.is ∙ ap (λ (r : List ℕ). g.past.given ++ r) cut.is ∙ sym (append_assoc g.past.given raw after);
  begun = subst Begins (sym (g.past.whole raw ∙ ap (λ (ls : List (List ℕ)). g.before ++ ls) (whole_raw_lines-none raw cut.no_feed) ∙ append-nil g.before)) (begins_run g.before p g.ran);
}

-- ---- the last line was read

certificate_text-lines : (lines : List Line) → flat_map with_feed (map line_text lines) ≡ flat_map (λ line. line_text line ++ 10 ∷ []) lines
certificate_text-lines [] = refl
certificate_text-lines (line ∷ lines) = ap (λ (t : List ℕ). (line_text line ++ 10 ∷ []) ++ t) (certificate_text-lines lines)

given-is : (spare count : ℕ) (text rest : List ℕ) (c : Certificate) (g : Gathers spare text rest (progress.Whole c) count) → g.past.given ≡ certificate_text c
given-is spare count text rest c g =
    g.past.lines ∙ ap (λ (ls : List (List ℕ)). flat_map with_feed ls) (sym g.ran.texts) ∙ certificate_text-lines (lines_of c)

pub is_certificate : (spare count : ℕ) (text rest : List ℕ) (c : Certificate) (g : Gathers spare text rest (progress.Whole c) count) → rest ≡ [] → IsCertificate text c
is_certificate spare count text rest c g none = record {
  fits = whole_fits g.before c g.ran;
  is = g.past.is ∙ ap (λ (r : List ℕ). g.past.given ++ r) none ∙ append-nil g.past.given ∙ given-is spare count text rest c g;
  short = (let e = g.past.count in omega (arith, ap length g.past.is, length-append g.past.given rest, ap length none));
}

followed : (text rest given : List ℕ) (before more : List (List ℕ)) (c : Certificate) → seen_lines text ≡ before ++ more → IsRun before (progress.Whole c) → text ≡ given ++ rest → given ≡ certificate_text c → 0 < length rest → IsFaultAfter text (length before) kind.Syntax
followed text rest given before [] c seen run is whole some =
    let all : seen_lines text ≡ before = seen ∙ append-nil before in
    inr (
      ap length (sym all),
      record {
        whole = record { certificate = c; fits = whole_fits before c run; is = run.texts ∙ sym all };
        followed = omega (arith, ap length is, length-append given rest, ap length whole);
      },
    )
followed text rest given before (raw ∷ more) c seen run is whole some =
    inl (wrong_line text raw before more (progress.Whole c) (seen ∙ sym (append_assoc before (raw ∷ []) more)) run (step_raw-whole c raw))

pub fault_followed : (spare count : ℕ) (text rest : List ℕ) (c : Certificate) (g : Gathers spare text rest (progress.Whole c) count) → 0 < length rest → IsFaultAfter text count kind.Syntax
fault_followed spare count text rest c g some =
    subst (λ (k : ℕ). IsFaultAfter text k kind.Syntax) g.counted
    (followed text rest g.past.given g.before (whole_raw_lines (take spare rest)) c (seen-is spare text rest g.before g.past) g.ran g.past.is (given-is spare count text rest c g) some)

pub broken_end : (spare count : ℕ) (text rest after : List ℕ) (c : Certificate) (g : Gathers spare text rest (progress.Whole c) count) → rest ≡ after → IsReadSoFar text after
broken_end spare count text rest after c g same = read_so_far spare count text rest [] after (progress.Whole c) g (record { no_feed = tt; is = same })

-- ---- what one step of the reader makes of it

pub Steps-at : (old new : RawLines) (text after : List ℕ) (a b : Step) → a ≡ b → Steps old new text after a → Steps old new text after b
Steps-at old new text after a b e step = subst (λ (x : Step). Steps old new text after x) e step

pub Reads-fault : (text after : List ℕ) (count : ℕ) (kind : CertKind) (error : CertError) → error ≡ Refused (record { line = count + 1; kind = kind }) → IsFaultAfter text count kind → Reads text after (Err error)
Reads-fault text after count kind error e fault = subst (λ (x : CertError). Reads text after (Err x)) (sym e) (count, refl, fault)

pub gathers_line : (old new : RawLines) (text rest after raw : List ℕ) (p q : Progress) (count : ℕ) → Gathers (budget old) text (held old ++ rest) p count → Steps old new (held old ++ rest) after step.Line → raw ≡ raw_of new → step_raw p raw ≡ Some q → Gathers (budget new) text (held new ++ after) q (count + 1)
gathers_line old new text rest after raw p q count g (line, taken) same e =
    let said = step_raw-some p (raw_of new) q (ap (step_raw p) (sym same) ∙ e) in
    record {
      before = g.before ++ raw_of new ∷ [];
      past = IsPast-line (budget old) (budget new) text (held old ++ rest) (raw_of new) (held new ++ after) g.before g.past line taken;
      ran = IsRun-push g.before (raw_of new) p q said.0 g.ran said.1 said.2;
      counted = length_push g.before (raw_of new) ∙ ap (λ (k : ℕ). k + 1) g.counted;
    }

pub wrong_on : (old new : RawLines) (text rest after raw : List ℕ) (p : Progress) (count : ℕ) → Gathers (budget old) text (held old ++ rest) p count → Steps old new (held old ++ rest) after step.Line → raw ≡ raw_of new → step_raw p raw ≡ None → IsFaultAfter text count kind.Syntax
wrong_on old new text rest after raw p count g (line, taken) same e =
    fault_syntax (budget old) (budget new) count text (held old ++ rest) (raw_of new) (held new ++ after) p g line taken (ap (step_raw p) (sym same) ∙ e)

pub truncated_on : (old new : RawLines) (text rest after : List ℕ) (p : Progress) (count : ℕ) → IsOpen p → Gathers (budget old) text (held old ++ rest) p count → Steps old new (held old ++ rest) after step.End → IsFaultAfter text count kind.Truncated
truncated_on old new text rest after p count opened g (raw, end') = fault_truncated (budget old) count text (held old ++ rest) raw after p g end' opened

pub long_on : (old new : RawLines) (text rest after : List ℕ) (p : Progress) (count : ℕ) → IsOpen p → Gathers (budget old) text (held old ++ rest) p count → Steps old new (held old ++ rest) after step.Spent → IsFaultAfter text count kind.Long
long_on old new text rest after p count opened g (raw, byte, spent) = fault_long (budget old) count text (held old ++ rest) raw after byte p g spent opened

pub broken_on : (old new : RawLines) (text rest after : List ℕ) (p : Progress) (count : ℕ) → Gathers (budget old) text (held old ++ rest) p count → Steps old new (held old ++ rest) after step.Failed → IsReadSoFar text after
broken_on old new text rest after p count g (raw, cut) = read_so_far (budget old) count text (held old ++ rest) raw after p g cut

pub GathersOn-sorted : (lines : RawLines) (text rest : List ℕ) (count : ℕ) (p : Progress) (sorted : Gathered) → IsSorted p sorted → Gathers (budget lines) text (held lines ++ rest) p count → GathersOn lines text rest count (Ok sorted)
GathersOn-sorted lines text rest count p (More q) same g = subst (λ (x : Progress). Gathers (budget lines) text (held lines ++ rest) x count) (sym same.0) g
GathersOn-sorted lines text rest count p (All c) same g = subst (λ (x : Progress). Gathers (budget lines) text (held lines ++ rest) x count) same g

pub IsMore-sorted : (p : Progress) (sorted : Gathered) → IsSorted p sorted → IsMore sorted
IsMore-sorted p (More q) same = subst IsOpen (sym same.0) same.1
IsMore-sorted p (All c) same = tt
