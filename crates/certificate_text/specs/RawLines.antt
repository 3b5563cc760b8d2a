-- What a reader of raw lines hands out, line by line.
--   held r        the bytes that it has read and not handed out
--   raw_of r      the raw line that it hands out, without its line feed
--   budget r      how many bytes its lines may still take
--   HasTaken      the lines may take so many bytes less
--   IsFreshReader it holds nothing, and its lines may take as many bytes as a certificate may have
--   CutsWhole, CutsPart   the held bytes up to their first line feed were put after the raw line, or all of them
--   Cuts          which of these was done
--   Grows, GivesFill   what one try to read more came to, of a reader that held nothing
--   IsRest        the text is these bytes, which have no line feed
--   Steps         what one step did to a text, which is what the reader held and what the source had left
--   IsAtEnd       what was found of the text's end
use Rattle.std.specs.Prelude.{◌≡◌, ℕ, ◌+◌, ◌-◌, ◌<◌, ◌≤◌, List, [], ◌∷◌, ◌++◌, length, slice_range}
use Rattle.road_text.specs.Lines.{HasNoFeed}
use Rattle.road_text.specs.Reader.{IsLine, IsCutOff, IsSpent}
use Rattle.certificate_text.specs.declared.certificate.TheConstants.{MAX_CERTIFICATE}
use Rattle.certificate_text.specs.declared.raw_lines.RawLines.{RawLines}
use Rattle.certificate_text.specs.declared.raw_lines.Cut.{Cut}
use Rattle.certificate_text.specs.declared.raw_lines.Cut.TheVariants as cut
use Rattle.certificate_text.specs.declared.raw_lines.Fill.{Fill}
use Rattle.certificate_text.specs.declared.raw_lines.Fill.TheVariants as fill
use Rattle.certificate_text.specs.declared.raw_lines.Step.{Step}
use Rattle.certificate_text.specs.declared.raw_lines.Step.TheVariants as step

abbrev pub held : RawLines → List ℕ
held r = slice_range r.buffer.items r.start r.end

abbrev pub raw_of : RawLines → List ℕ
raw_of r = r.line.items

abbrev pub budget : RawLines → ℕ
budget r = (MAX_CERTIFICATE - r.taken) + (r.end - r.start)

abbrev pub HasTaken : RawLines → RawLines → ℕ → Type 0
HasTaken old new bytes = budget new + bytes ≡ budget old

pub record IsFreshReader (r : RawLines) : Type 0 where
  pub empty : held r ≡ []
  pub whole : budget r ≡ MAX_CERTIFICATE

-- the held bytes up to their first line feed were put after the raw line
pub record CutsWhole (old new : RawLines) (piece : List ℕ) : Type 0 where
  pub no_feed : HasNoFeed piece
  pub held_is : held old ≡ piece ++ 10 ∷ held new
  pub raw_is : raw_of new ≡ raw_of old ++ piece
  pub taken : HasTaken old new (length piece + 1)

-- all of them, which have no line feed
pub record CutsPart (old new : RawLines) : Type 0 where
  pub no_feed : HasNoFeed (held old)
  pub empty : held new ≡ []
  pub emptied : new.start ≡ new.end
  pub raw_is : raw_of new ≡ raw_of old ++ held old
  pub taken : HasTaken old new (length (held old))
  pub same : new.taken ≡ old.taken

abbrev pub Cuts : RawLines → RawLines → Cut → Type 0
Cuts old new cut.Whole = (piece : List ℕ) × CutsWhole old new piece
Cuts old new cut.Part = CutsPart old new
Cuts old new cut.NoMemory = Unit {0}

abbrev pub Grows : RawLines → RawLines → Fill → Type 0
Grows old new fill.More = (0 < length (held new)) × (MAX_CERTIFICATE - new.taken < MAX_CERTIFICATE - old.taken)
Grows old new fill.End = held new ≡ []
Grows old new fill.Spent = held new ≡ []
Grows old new fill.Failed = held new ≡ []

abbrev pub GivesFill : RawLines → RawLines → List ℕ → List ℕ → Fill → Type 0
GivesFill old new before after fill.More = before ≡ held new ++ after
GivesFill old new before after fill.End = (before ≡ []) × (after ≡ [])
GivesFill old new before after fill.Spent = (byte : ℕ) × (before ≡ byte ∷ after) × (budget old ≡ 0)
GivesFill old new before after fill.Failed = after ≡ before

-- the text is these bytes, which have no line feed and are within the budget
pub record IsRest (text raw rest : List ℕ) (most : ℕ) : Type 0 where
  pub no_feed : HasNoFeed raw
  pub is : text ≡ raw
  pub short : length raw ≤ most

abbrev pub Steps : RawLines → RawLines → List ℕ → List ℕ → Step → Type 0
Steps old new text rest step.Line = IsLine text (raw_of new) (held new ++ rest) × HasTaken old new (length (raw_of new) + 1)
Steps old new text rest step.End = (raw : List ℕ) × IsRest text raw rest (budget old)
Steps old new text rest step.Spent = (raw : List ℕ) × (byte : ℕ) × IsSpent text raw rest byte (budget old)
Steps old new text rest step.Failed = (raw : List ℕ) × IsCutOff text raw rest
Steps old new text rest step.NoMemory = Unit {0}

abbrev pub IsAtEnd : List ℕ → List ℕ → Fill → Type 0
IsAtEnd text rest fill.More = 0 < length text
IsAtEnd text rest fill.End = text ≡ []
IsAtEnd text rest fill.Spent = 0 < length text
IsAtEnd text rest fill.Failed = text ≡ rest
