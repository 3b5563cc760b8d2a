-- Which text is a certificate's, and the first fault of one that isn't.
--   IsNumber n            n has at most 19 digits
--   HasNumbers line       so has each number of the line
--   Fits c                each number of the certificate has at most 19 digits, and it has a block
--   texts_of c            the lines of the certificate, each without its line feed
--   Begins lines          the lines of some certificate begin with these
--   IsWhole lines         they are all lines of some certificate
--   seen_lines text       the lines that end within as many bytes as a certificate may have, each without its line feed
--   IsWrongLine text k    the first k lines begin a certificate's, and those and the next one don't
--   IsFollowed text       the lines are a certificate's, and a byte comes after them
--   IsCut text            the lines begin a certificate's, and aren't all of one
--   IsFault text fault    the fault is the first one of the text
--   IsReadSoFar text rest   bytes of the text were read, with this rest left, and their lines begin a certificate's
--   Reads text rest result  what is read of a text that leaves this rest
use Rattle.std.specs.Prelude.{◌≡◌, ◌<◌, ◌≤◌, ◌+◌, ◌^◌, ◌⊎◌, ℕ, List, [], ◌∷◌, ◌++◌, length, map, take, Option, Some, None, Result, Ok, Err}
use Rattle.std.specs.List.{AllByRecursion}
use Rattle.road_text.specs.Lines.{whole_raw_lines}
use Rattle.road_model.specs.declared.request.CursorQuery.{CursorQuery}
use Rattle.certificate_text.specs.declared.certificate.Reason.{Reason}
use Rattle.certificate_text.specs.declared.certificate.Reason.TheVariants as reason
use Rattle.certificate_text.specs.declared.certificate.Certificate.{Certificate}
use Rattle.certificate_text.specs.declared.certificate.TheConstants.{MAX_CERTIFICATE}
use Rattle.certificate_text.specs.declared.fault.CertKind.{CertKind}
use Rattle.certificate_text.specs.declared.fault.CertKind.TheVariants as kind
use Rattle.certificate_text.specs.declared.fault.CertFault.{CertFault}
use Rattle.certificate_text.specs.declared.fault.CertError.{CertError}
use Rattle.certificate_text.specs.declared.fault.CertError.TheVariants.{Refused, ReadFault, NoMemory}
use Rattle.certificate_text.specs.Texts.{Line, Version, Counts, Asks, Heads, Row, End, None_found, Optimum, Route, Via, Done, lines_of, line_text, certificate_text}

abbrev pub IsNumber : ℕ → Type 0
IsNumber n = n < 10 ^ 19

abbrev pub AreNumbers : List ℕ → Type 0
AreNumbers ns = AllByRecursion IsNumber ns

abbrev pub HasRadius : Option ℕ → Type 0
HasRadius None = Unit {0}
HasRadius (Some r) = IsNumber r

abbrev pub HasRatios : CursorQuery → Type 0
HasRatios q = AreNumbers (q.gamma.0 ∷ q.gamma.1 ∷ q.alpha.0 ∷ q.alpha.1 ∷ q.epsilon.0 ∷ q.epsilon.1 ∷ [])

abbrev pub HasReason : Reason → Type 0
HasReason reason.Optimum = Unit {0}
HasReason (reason.Shared sum) = IsNumber sum
HasReason (reason.Local first last detour) = AreNumbers (first ∷ last ∷ detour)
HasReason (reason.Stretch first last detour) = AreNumbers (first ∷ last ∷ detour)
HasReason (reason.Listed name) = IsNumber name

abbrev pub HasNumbers : Line → Type 0
HasNumbers Version = Unit {0}
HasNumbers (Counts n m) = IsNumber n × IsNumber m
HasNumbers (Asks q) = IsNumber q.from × IsNumber q.to × HasRatios q
HasNumbers (Heads kind root radius) = IsNumber root × HasRadius radius
HasNumbers (Row r) = IsNumber r.vertex × IsNumber r.label × IsNumber r.arc
HasNumbers End = Unit {0}
HasNumbers None_found = Unit {0}
HasNumbers (Optimum length arcs) = AreNumbers (length ∷ arcs)
HasNumbers (Route r) = AreNumbers (r.via ∷ r.length ∷ r.shared ∷ r.plateau ∷ r.rank ∷ r.arcs)
HasNumbers (Via v) = IsNumber v.vertex × HasReason v.reason
HasNumbers Done = Unit {0}

pub record Fits (c : Certificate) : Type 0 where
  pub numbers : AllByRecursion HasNumbers (lines_of c)
  pub some_block : 0 < length c.blocks

abbrev pub texts_of : Certificate → List (List ℕ)
texts_of c = map line_text (lines_of c)

-- the lines of some certificate begin with these
pub record Begins (lines : List (List ℕ)) : Type 0 where
  pub certificate : Certificate
  pub fits : Fits certificate
  pub more : List (List ℕ)
  pub is : texts_of certificate ≡ lines ++ more

-- these are all lines of some certificate
pub record IsWhole (lines : List (List ℕ)) : Type 0 where
  pub certificate : Certificate
  pub fits : Fits certificate
  pub is : texts_of certificate ≡ lines

abbrev pub seen_lines : List ℕ → List (List ℕ)
seen_lines text = whole_raw_lines (take MAX_CERTIFICATE text)

-- the next line is the first that can't stand in its place
pub record IsWrongLine (text : List ℕ) (k : ℕ) : Type 0 where
  pub inside : k < length (seen_lines text)
  pub before : Begins (take k (seen_lines text))
  pub wrong : Begins (take (k + 1) (seen_lines text)) → ⊥

pub record IsFollowed (text : List ℕ) : Type 0 where
  pub whole : IsWhole (seen_lines text)
  pub followed : length (certificate_text whole.certificate) < length text

pub record IsCut (text : List ℕ) : Type 0 where
  pub begun : Begins (seen_lines text)
  pub cut : IsWhole (seen_lines text) → ⊥

-- a fault of this kind after k whole lines
abbrev pub IsFaultAfter : List ℕ → ℕ → CertKind → Type 0
IsFaultAfter text k kind.Syntax = IsWrongLine text k ⊎ ((k ≡ length (seen_lines text)) × IsFollowed text)
IsFaultAfter text k kind.Truncated = (k ≡ length (seen_lines text)) × (length text ≤ MAX_CERTIFICATE) × IsCut text
IsFaultAfter text k kind.Long = (k ≡ length (seen_lines text)) × (MAX_CERTIFICATE < length text) × IsCut text
IsFaultAfter text k other = ⊥

abbrev pub IsFault : List ℕ → CertFault → Type 0
IsFault text fault = (k : ℕ) × (fault.line ≡ k + 1) × IsFaultAfter text k fault.kind

-- the whole lines of what was read have no fault
pub record IsReadSoFar (text rest : List ℕ) : Type 0 where
  pub taken : List ℕ
  pub is : text ≡ taken ++ rest
  pub begun : Begins (whole_raw_lines taken)

-- the text is the certificate's, and no other byte comes
pub record IsCertificate (text : List ℕ) (c : Certificate) : Type 0 where
  pub fits : Fits c
  pub is : text ≡ certificate_text c
  pub short : length text ≤ MAX_CERTIFICATE

abbrev pub Reads : List ℕ → List ℕ → Result Certificate CertError → Type 0
Reads text rest (Ok c) = IsCertificate text c
Reads text rest (Err (Refused fault)) = IsFault text fault
Reads text rest (Err ReadFault) = IsReadSoFar text rest
Reads text rest (Err NoMemory) = Unit {0}
