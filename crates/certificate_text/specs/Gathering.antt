-- How a certificate is gathered, by how far its text was read.
--   IsRun raws p     the raw lines are those of which this much is a certificate
--   IsOpen p         lines may follow
--   with_feed raw    a raw line with its line feed
--   IsPast           the text goes on with this rest after the lines before, which all have their line feeds; of the
--                    bytes that a certificate may have the lines to come may take spare
--   Gathers          this much was read of a text that goes on with this rest, in so many lines
--   IsMore           where more lines may come, they may
--   IsSorted         the progress, by whether more lines may come
--   GathersOn        what one step of the reader made of it
use Rattle.std.specs.Prelude.{◌≡◌, ℕ, ◌+◌, List, [], ◌∷◌, ◌++◌, length, map, Some, Result, Ok, Err}
use Rattle.std.specs.List.{AllByRecursion, flat_map}
use Rattle.road_text.specs.Lines.{whole_raw_lines}
use Rattle.certificate_text.specs.declared.certificate.TheConstants.{MAX_CERTIFICATE}
use Rattle.certificate_text.specs.declared.fault.CertError.{CertError}
use Rattle.certificate_text.specs.declared.order.Progress.{Progress}
use Rattle.certificate_text.specs.declared.order.Progress.TheVariants.{Start, Named, Counted, Between, Inside, NoneFound, Found, Whole}
use Rattle.certificate_text.specs.declared.raw_lines.RawLines.{RawLines}
use Rattle.certificate_text.specs.declared.read.Gathered.{Gathered}
use Rattle.certificate_text.specs.declared.read.Gathered.TheVariants.{More, All}
use Rattle.certificate_text.specs.Texts.{line_text}
use Rattle.certificate_text.specs.Order.{run_raw, lines_in, IsReached}
use Rattle.certificate_text.specs.RawLines.{held, budget}
use Rattle.certificate_text.specs.Reading.{HasNumbers, Reads}

pub record IsRun (raws : List (List ℕ)) (p : Progress) : Type 0 where
  pub ran : run_raw Start raws ≡ Some p
  pub texts : map line_text (lines_in p) ≡ raws
  pub numbers : AllByRecursion HasNumbers (lines_in p)
  pub reached : IsReached p

abbrev pub IsOpen : Progress → Type 0
IsOpen Start = Unit {0}
IsOpen Named = Unit {0}
IsOpen (Counted n m) = Unit {0}
IsOpen (Between opening) = Unit {0}
IsOpen (Inside opening block) = Unit {0}
IsOpen (NoneFound opening) = Unit {0}
IsOpen (Found opening a) = Unit {0}
IsOpen (Whole c) = ⊥

abbrev pub with_feed : List ℕ → List ℕ
with_feed raw = raw ++ 10 ∷ []

pub record IsPast (spare : ℕ) (text rest : List ℕ) (before : List (List ℕ)) : Type 0 where
  pub given : List ℕ
  pub is : text ≡ given ++ rest
  pub lines : given ≡ flat_map with_feed before
  pub whole : (more : List ℕ) → whole_raw_lines (given ++ more) ≡ before ++ whole_raw_lines more
  pub count : length given + spare ≡ MAX_CERTIFICATE

pub record Gathers (spare : ℕ) (text rest : List ℕ) (p : Progress) (count : ℕ) : Type 0 where
  pub before : List (List ℕ)
  pub past : IsPast spare text rest before
  pub ran : IsRun before p
  pub counted : length before ≡ count

-- more lines may come, where it says so
abbrev pub IsMore : Gathered → Type 0
IsMore (More p) = IsOpen p
IsMore (All c) = Unit {0}

abbrev pub IsSorted : Progress → Gathered → Type 0
IsSorted p (More q) = (q ≡ p) × IsOpen p
IsSorted p (All c) = p ≡ Whole c

abbrev pub GathersOn : RawLines → List ℕ → List ℕ → ℕ → Result Gathered CertError → Type 0
GathersOn lines text rest count (Ok (More p)) = Gathers (budget lines) text (held lines ++ rest) p count
GathersOn lines text rest count (Ok (All c)) = Gathers (budget lines) text (held lines ++ rest) (Whole c) count
GathersOn lines text rest count (Err error) = Reads text rest (Err error)
