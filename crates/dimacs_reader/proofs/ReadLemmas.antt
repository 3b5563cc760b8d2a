-- What a text comes to, by how far it was read and what was gathered.
use Rattle.std.proofs.Common.{◌≡◌, ℕ, ◌-◌, ◌<◌, ◌≤◌, true, false, List, [], ◌∷◌, ◌++◌, length, take, Option, Some, None, Result, Ok, Err, refl, sym, ap, subst, ◌∙◌, arith, ⊎_elim}
use Rattle.std.proofs.Math.Seq.{take-append-add}
use Rattle.std.proofs.lemmas.Bool.{le-leb, lt-leb, cases_lt}
use Rattle.std.proofs.lemmas.List.{append-nil}
use Rattle.road_model.specs.Graph.{Graph}
use Rattle.road_text.specs.Lines.{lines_of, whole_lines}
use Rattle.road_text.specs.declared.line_reader.LineReader.{LineReader}
use Rattle.road_text.specs.declared.line_reader.Advance.TheVariants.{Whole, Last, Long, End, Spent, Failed}
use Rattle.road_text.specs.Reader.{held, line_of, budget, limit_of, IsLongLine, Steps}
use Rattle.road_text.specs.Progress.{IsBeyond, IsRead, IsBroken, IsOver}
use Rattle.road_text.proofs.BeyondLemmas.{beyond_whole, beyond_long, read_last, read_long, read_end, over_spent, broken_failed}
use Rattle.dimacs_reader.specs.declared.fault.GraphKind.{GraphKind}
use Rattle.dimacs_reader.specs.declared.fault.GraphKind.TheVariants.{FileLong}
use Rattle.dimacs_reader.specs.declared.fault.GraphFault.{GraphFault}
use Rattle.dimacs_reader.specs.declared.fault.GraphError.{GraphError}
use Rattle.dimacs_reader.specs.declared.fault.GraphError.TheVariants.{Refused, ReadFault, NoMemory}
use Rattle.dimacs_reader.specs.declared.line.TheConstants.{MAX_LINE, MAX_FILE}
use Rattle.dimacs_reader.specs.declared.builder.Builder.{Builder}
use Rattle.dimacs_reader.specs.Gr.{problem_in, arcs_in, vertices_of, fault_of, fault_at, first_fault, end_fault, graph_of, long_text, gr_text}
use Rattle.dimacs_reader.specs.Building.{AddsLine, Ends}
use Rattle.dimacs_reader.specs.Gathering.{Gathers, GathersAll}
use Rattle.dimacs_reader.specs.Reads.{ReadsGraph, IsCutShort}
use Rattle.dimacs_reader.proofs.GrLemmas.{first_fault-push, first_fault-found}

pub gr_text-short : (text : List ℕ) → length text ≤ MAX_FILE → gr_text text ≡ graph_of (lines_of text)
unfolding gr_text
gr_text-short text short = rw (le-leb (length text) MAX_FILE short) refl

gr_text-long : (text : List ℕ) → MAX_FILE < length text → gr_text text ≡ long_text (whole_lines (take MAX_FILE text))
unfolding gr_text
gr_text-long text long = rw (lt-leb (length text) MAX_FILE long) refl

graph_of-fault : (lines : List (List ℕ)) (fault : GraphFault) → first_fault [] lines ≡ Some fault → graph_of lines ≡ Err fault
unfolding graph_of
graph_of-fault lines fault e = rw e refl

long_text-fault : (lines : List (List ℕ)) (fault : GraphFault) → first_fault [] lines ≡ Some fault → long_text lines ≡ Err fault
unfolding long_text
long_text-fault lines fault e = rw e refl

long_text-long : (lines : List (List ℕ)) → first_fault [] lines ≡ None → long_text lines ≡ Err (fault_at lines FileLong)
unfolding long_text
long_text-long lines e = rw e refl

graph_of-end : (lines : List (List ℕ)) (kind : GraphKind) → first_fault [] lines ≡ None → end_fault lines ≡ Some kind → graph_of lines ≡ Err (fault_at lines kind)
unfolding graph_of
graph_of-end lines kind e f = rw (e, f) refl

pub graph_of-graph : (lines : List (List ℕ)) (graph : Graph) → first_fault [] lines ≡ None → end_fault lines ≡ None → graph.vertices ≡ vertices_of (problem_in lines) → graph.arcs ≡ arcs_in lines → graph_of lines ≡ Ok graph
unfolding graph_of
graph_of-graph lines graph e f v a = rw (e, f, ← v, ← a) refl

take-prefix : (a b : List ℕ) (n : ℕ) → length a ≤ n → take n (a ++ b) ≡ a ++ take (n - length a) b
take-prefix a b n le = ap (λ (k : ℕ). take k (a ++ b)) (omega arith) ∙ take-append-add a b (n - length a)

-- a fault of a line that has its line feed, whatever follows it
pub reads_fault : (spare : ℕ) (text rest : List ℕ) (before : List (List ℕ)) (line : List ℕ) (kind : GraphKind) → IsBeyond MAX_FILE spare text rest (before ++ line ∷ []) → first_fault [] before ≡ None → fault_of before line ≡ Some kind → gr_text text ≡ Err (fault_at before kind)
reads_fault spare text rest before line kind at' clean found =
    let upto : List ℕ = at'.given in
    ⊎_elim
    (λ (long : MAX_FILE < length text).
    let few : length upto ≤ MAX_FILE = (let e = at'.count in omega arith) in
    let cut : take MAX_FILE text ≡ upto ++ take (MAX_FILE - length upto) rest =
    ap (take MAX_FILE) at'.is ∙ take-prefix upto rest MAX_FILE few in
    gr_text-long text long
    ∙ long_text-fault (whole_lines (take MAX_FILE text)) (fault_at before kind)
    (ap (λ (t : List ℕ). first_fault [] (whole_lines t)) cut ∙ ap (first_fault []) (at'.whole (take (MAX_FILE - length upto) rest))
    ∙ first_fault-found before (whole_lines (take (MAX_FILE - length upto) rest)) line kind clean found))
    (λ (short : length text ≤ MAX_FILE).
    gr_text-short text short
    ∙ graph_of-fault (lines_of text) (fault_at before kind)
    (ap (λ (t : List ℕ). first_fault [] (lines_of t)) at'.is ∙ ap (first_fault []) (at'.lines rest)
    ∙ first_fault-found before (lines_of rest) line kind clean found))
    (cases_lt MAX_FILE (length text))

-- a fault of the last line, which has none
pub reads_last_fault : (text : List ℕ) (before : List (List ℕ)) (line : List ℕ) (kind : GraphKind) → IsRead MAX_FILE text (before ++ line ∷ []) → first_fault [] before ≡ None → fault_of before line ≡ Some kind → gr_text text ≡ Err (fault_at before kind)
reads_last_fault text before line kind all clean found =
    gr_text-short text all.short
    ∙ graph_of-fault (lines_of text) (fault_at before kind)
    (ap (first_fault []) (all.lines ∙ sym (append-nil (before ++ line ∷ []))) ∙ first_fault-found before [] line kind clean found)

-- the end of the file
pub reads_end : (text rest : List ℕ) (all : List (List ℕ)) (answer : Result Graph GraphError) → IsRead MAX_FILE text all → first_fault [] all ≡ None → Ends all answer → ReadsGraph text rest answer
reads_end text rest all (Ok graph) read clean ends =
    gr_text-short text read.short ∙ ap graph_of read.lines ∙ graph_of-graph all graph clean ends.0 ends.1 ends.2
reads_end text rest all (Err (Refused fault)) read clean ends =
    gr_text-short text read.short ∙ ap graph_of read.lines ∙ graph_of-end all ends.0 clean ends.1 ∙ ap (λ (f : GraphFault). Err f) (sym ends.2)
reads_end text rest all (Err ReadFault) read clean ends = absurd ends
reads_end text rest all (Err NoMemory) read clean ends = tt

-- the file is too long
pub reads_over : (text : List ℕ) (before : List (List ℕ)) → IsOver MAX_FILE text before → first_fault [] before ≡ None → gr_text text ≡ Err (fault_at before FileLong)
reads_over text before over clean =
    gr_text-long text over.long ∙ ap long_text over.whole ∙ long_text-long before clean

-- a read failed
pub reads_broken : (text rest : List ℕ) (before : List (List ℕ)) → IsBroken text rest before → first_fault [] before ≡ None → IsCutShort text rest
reads_broken text rest before broken clean = record {
  taken = broken.taken;
  is = broken.is;
  faultless = ap (first_fault []) broken.whole ∙ clean;
}

-- ---- what one step of the reader makes of the gathering

AddsLine-fault : (before : List (List ℕ)) (line : List ℕ) (new : Builder) (text rest : List ℕ) (error : GraphError) → ((kind : GraphKind) → fault_of before line ≡ Some kind → gr_text text ≡ Err (fault_at before kind)) → AddsLine before line new (Err error) → ReadsGraph text rest (Err error)
AddsLine-fault before line new text rest (Refused fault) f adds = f adds.0 adds.1 ∙ ap (λ (x : GraphFault). Err x) (sym adds.2)
AddsLine-fault before line new text rest ReadFault f adds = absurd adds
AddsLine-fault before line new text rest NoMemory f adds = tt

pub gathers_whole : (old reader : LineReader) (text rest after : List ℕ) (builder new : Builder) (done : Unit {0}) (g : Gathers (budget old) text (held old ++ rest) builder) → Steps old reader (held old ++ rest) after Whole → AddsLine g.before (line_of reader) new (Ok done) → Gathers (budget reader) text (held reader ++ after) new
gathers_whole old reader text rest after builder new done g step adds = record {
  before = g.before ++ line_of reader ∷ [];
  beyond = beyond_whole MAX_FILE old reader text rest after g.before g.beyond step;
  after = adds.1;
  clean = first_fault-push g.before (line_of reader) g.clean adds.0;
}

pub faults_whole : (old reader : LineReader) (text rest after : List ℕ) (builder new : Builder) (error : GraphError) (g : Gathers (budget old) text (held old ++ rest) builder) → Steps old reader (held old ++ rest) after Whole → AddsLine g.before (line_of reader) new (Err error) → ReadsGraph text after (Err error)
faults_whole old reader text rest after builder new error g step adds =
    AddsLine-fault g.before (line_of reader) new text after error (λ kind found. reads_fault (budget reader) text (held reader ++ after) g.before (line_of reader) kind (beyond_whole MAX_FILE old reader text rest after g.before g.beyond step) g.clean found) adds

pub gathers_last : (old reader : LineReader) (text rest after : List ℕ) (builder new : Builder) (done : Unit {0}) (g : Gathers (budget old) text (held old ++ rest) builder) → Steps old reader (held old ++ rest) after Last → AddsLine g.before (line_of reader) new (Ok done) → GathersAll text new
gathers_last old reader text rest after builder new done g step adds = record {
  all = g.before ++ line_of reader ∷ [];
  read = read_last MAX_FILE old reader text rest after g.before g.beyond step;
  after = adds.1;
  clean = first_fault-push g.before (line_of reader) g.clean adds.0;
}

pub faults_last : (old reader : LineReader) (text rest after : List ℕ) (builder new : Builder) (error : GraphError) (g : Gathers (budget old) text (held old ++ rest) builder) → Steps old reader (held old ++ rest) after Last → AddsLine g.before (line_of reader) new (Err error) → ReadsGraph text after (Err error)
faults_last old reader text rest after builder new error g step adds =
    AddsLine-fault g.before (line_of reader) new text after error (λ kind found. reads_last_fault text g.before (line_of reader) kind (read_last MAX_FILE old reader text rest after g.before g.beyond step) g.clean found) adds

-- what a line that wasn't shown adds
abbrev pub AddsLong : (before : List (List ℕ)) → Option ℕ → Builder → Result Unit GraphError → Type 0
AddsLong before first new answer = (line : List ℕ) → IsLongLine MAX_LINE line first → AddsLine before line new answer

pub gathers_long : (old reader : LineReader) (text rest after : List ℕ) (builder new : Builder) (first : Option ℕ) (done : Unit {0}) → limit_of old ≡ MAX_LINE → (g : Gathers (budget old) text (held old ++ rest) builder) → Steps old reader (held old ++ rest) after (Long true first) → AddsLong g.before first new (Ok done) → Gathers (budget reader) text (held reader ++ after) new
gathers_long old reader text rest after builder new first done limit g step adds =
    let found = beyond_long MAX_FILE old reader text rest after g.before first g.beyond step in
    let added = adds found.0 (subst (λ (n : ℕ). IsLongLine n found.0 first) limit found.1) in
    record {
      before = g.before ++ found.0 ∷ [];
      beyond = found.2;
      after = added.1;
      clean = first_fault-push g.before found.0 g.clean added.0;
    }

pub faults_long : (old reader : LineReader) (text rest after : List ℕ) (builder new : Builder) (first : Option ℕ) (error : GraphError) → limit_of old ≡ MAX_LINE → (g : Gathers (budget old) text (held old ++ rest) builder) → Steps old reader (held old ++ rest) after (Long true first) → AddsLong g.before first new (Err error) → ReadsGraph text after (Err error)
faults_long old reader text rest after builder new first error limit g step adds =
    let found = beyond_long MAX_FILE old reader text rest after g.before first g.beyond step in
    let added = adds found.0 (subst (λ (n : ℕ). IsLongLine n found.0 first) limit found.1) in
    AddsLine-fault g.before found.0 new text after error (λ kind h. reads_fault (budget reader) text (held reader ++ after) g.before found.0 kind found.2 g.clean h) added

pub gathers_long_last : (old reader : LineReader) (text rest after : List ℕ) (builder new : Builder) (first : Option ℕ) (done : Unit {0}) → limit_of old ≡ MAX_LINE → (g : Gathers (budget old) text (held old ++ rest) builder) → Steps old reader (held old ++ rest) after (Long false first) → AddsLong g.before first new (Ok done) → GathersAll text new
gathers_long_last old reader text rest after builder new first done limit g step adds =
    let found = read_long MAX_FILE old reader text rest after g.before first g.beyond step in
    let added = adds found.0 (subst (λ (n : ℕ). IsLongLine n found.0 first) limit found.1) in
    record {
      all = g.before ++ found.0 ∷ [];
      read = found.2;
      after = added.1;
      clean = first_fault-push g.before found.0 g.clean added.0;
    }

pub faults_long_last : (old reader : LineReader) (text rest after : List ℕ) (builder new : Builder) (first : Option ℕ) (error : GraphError) → limit_of old ≡ MAX_LINE → (g : Gathers (budget old) text (held old ++ rest) builder) → Steps old reader (held old ++ rest) after (Long false first) → AddsLong g.before first new (Err error) → ReadsGraph text after (Err error)
faults_long_last old reader text rest after builder new first error limit g step adds =
    let found = read_long MAX_FILE old reader text rest after g.before first g.beyond step in
    let added = adds found.0 (subst (λ (n : ℕ). IsLongLine n found.0 first) limit found.1) in
    AddsLine-fault g.before found.0 new text after error (λ kind h. reads_last_fault text g.before found.0 kind found.2 g.clean h) added

pub gathers_end : (old reader : LineReader) (text rest after : List ℕ) (builder : Builder) (g : Gathers (budget old) text (held old ++ rest) builder) → Steps old reader (held old ++ rest) after End → GathersAll text builder
gathers_end old reader text rest after builder g step = record {
  all = g.before;
  read = read_end MAX_FILE old reader text rest after g.before g.beyond step;
  after = g.after;
  clean = g.clean;
}

pub faults_over : (old reader : LineReader) (text rest after : List ℕ) (builder : Builder) (g : Gathers (budget old) text (held old ++ rest) builder) → Steps old reader (held old ++ rest) after Spent → gr_text text ≡ Err (fault_at g.before FileLong)
faults_over old reader text rest after builder g step = reads_over text g.before (over_spent MAX_FILE old reader text rest after g.before g.beyond step) g.clean

pub cut_short : (old reader : LineReader) (text rest after : List ℕ) (builder : Builder) (g : Gathers (budget old) text (held old ++ rest) builder) → Steps old reader (held old ++ rest) after Failed → IsCutShort text after
cut_short old reader text rest after builder g step = reads_broken text after g.before (broken_failed MAX_FILE old reader text rest after g.before g.beyond step) g.clean
