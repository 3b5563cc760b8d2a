-- How far the lines of an input were read, whatever stands written.
use Rattle.std.proofs.Common.{◌≡◌, ℕ, false, List, [], ◌∷◌, ◌++◌, Option, sym, ap, ◌∙◌, subst}
use Rattle.road_io.specs.Told.{Told, IfTold}
use Rattle.road_io.proofs.ToldLemmas.{IfTold_both, told_same}
use Rattle.road_text.specs.declared.line_reader.LineReader.{LineReader}
use Rattle.road_text.specs.Reader.{IsFreshReader}
use Rattle.road_text.specs.Progress.{IsOver}
use Rattle.road_text.proofs.BeyondLemmas.{IsBeyond-fresh}
use Rattle.line_front.specs.declared.requests.Parsed.{Parsed}
use Rattle.route_server.specs.declared.input.NextLine.TheVariants as next
use Rattle.route_server.specs.Asking.{is_quit, most_input, NoQuit}
use Rattle.route_server.specs.Input.{IsAt, OneMore, Goes}
use Rattle.route_server.specs.Causes.{IsLong}
use Rattle.route_server.proofs.AskingLemmas.{NoQuit-push, within_long}

pub record Reading (reader : LineReader) (text rest : List ℕ) : Type 0 where
  pub before : List (List ℕ)
  pub at_line : IsAt reader text rest before
  pub unquit : NoQuit before

abbrev pub ReadsOn : LineReader → Option Told → Option Told → Type 0
ReadsOn reader a b = IfTold a b (λ text rest. Reading reader text rest)

pub reads_start : (reader : LineReader) (a : Option Told) → IsFreshReader reader 1024 most_input → ReadsOn reader a a
reads_start reader a fresh =
    told_same a _ (λ (text : List ℕ). record { before = []; at_line = IsBeyond-fresh reader 1024 most_input text fresh; unquit = tt })

pub reads_more : (old new : LineReader) (asked : Parsed) (a b b' : Option Told) → is_quit asked ≡ false → ReadsOn old a b → IfTold b b' (λ rest after. Goes old new rest after (next.More asked)) → ReadsOn new a b'
reads_more old new asked a b b' q h k =
    IfTold_both a b b' (λ text rest. Reading old text rest) (λ rest after. Goes old new rest after (next.More asked)) (λ text rest. Reading new text rest)
    (λ (text rest after : List ℕ) (r : Reading old text rest) (g : Goes old new rest after (next.More asked)).
    let one : OneMore new text after r.before asked = g text r.before r.at_line in
    record {
      before = r.before ++ one.line ∷ [];
      at_line = one.beyond;
      unquit = NoQuit-push r.before one.line r.unquit (ap is_quit (sym one.is) ∙ q);
    }) h k

pub reads_over : (old new : LineReader) (a b b' : Option Told) → ReadsOn old a b → IfTold b b' (λ rest after. Goes old new rest after next.Over) → IfTold a b' (λ text rest. IsLong text)
reads_over old new a b b' h k =
    IfTold_both a b b' (λ text rest. Reading old text rest) (λ rest after. Goes old new rest after next.Over) (λ text rest. IsLong text)
    (λ (text rest after : List ℕ) (r : Reading old text rest) (g : Goes old new rest after next.Over).
    let over : IsOver most_input text r.before = g text r.before r.at_line in
    record { long = over.long; unquit = subst NoQuit (sym (within_long text over.long ∙ over.whole)) r.unquit }) h k
