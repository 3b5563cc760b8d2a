-- What a reader of lines hands out, line by line.
--   held r        the bytes that it has read and not handed out
--   line_of r     the line that it shows
--   budget r      how many bytes its lines may still take
--   limit_of r    the longest line that it shows, its end not counted
--   IsFreshReader       a new reader: it holds nothing, and its lines may take all the bytes that it allows
--   IsLine        the text begins with this raw line and its line feed, and this is after it
--   IsLastLine    the text is this raw line, which has no line feed
--   Shows         the reader shows the raw line without its end, which is within the limit
--   IsTooLong     the raw line isn't shown, since its line is longer than the limit
--   IsFirstOf     the first byte that isn't blank is the same in a raw line and its line; or in the raw line it is the
--                 dropped carriage return, and the line has none
--   IsLongLine    the same, of the line
--   HasTaken      the lines may take so many bytes less, and the limit is the same
--   IsCutOff      the text begins with these bytes, which have no line feed, and goes on with this rest
--   IsSpent       the text begins with as many bytes as the lines may take, and one more, with no line feed before it
--   Steps         what one step did to a text, which is what the reader held and what the source had left
--   GoesOn        a line was handed out, and more may follow
--   IsShown       a line is shown
-- Of a source that tells nothing only its count of faults is known.
use Rattle.std.specs.Prelude.{◌≡◌, ℕ, ◌+◌, ◌-◌, ◌<◌, ◌≤◌, true, false, List, [], ◌∷◌, ◌++◌, ◌⊎◌, Option, None, Some, length, slice_range}
use Rattle.road_text.specs.declared.line_reader.LineReader.{LineReader}
use Rattle.road_text.specs.declared.line_reader.Advance.{Advance}
use Rattle.road_text.specs.declared.line_reader.Advance.TheVariants.{Whole, Last, Long, End, Spent, Failed}
use Rattle.road_text.specs.Lines.{HasNoFeed, without_return}
use Rattle.road_text.specs.Fields.{first_byte}

abbrev pub held : LineReader → List ℕ
held r = slice_range r.buffer.items r.start r.end

abbrev pub line_of : LineReader → List ℕ
line_of r = slice_range r.buffer.items r.line_start r.line_end

abbrev pub budget : LineReader → ℕ
budget r = (r.most - r.taken) + (r.end - r.start)

abbrev pub limit_of : LineReader → ℕ
limit_of r = r.longest

pub record IsFreshReader (r : LineReader) (longest most : ℕ) : Type 0 where
  pub empty : held r ≡ []
  pub whole : budget r ≡ most
  pub limit : limit_of r ≡ longest

pub record IsLine (text raw beyond : List ℕ) : Type 0 where
  pub no_feed : HasNoFeed raw
  pub is : text ≡ raw ++ 10 ∷ beyond

pub record IsLastLine (text raw beyond : List ℕ) : Type 0 where
  pub no_feed : HasNoFeed raw
  pub some : 0 < length raw
  pub is : text ≡ raw
  pub nothing : beyond ≡ []

-- the reader shows the raw line without its end, which is within the limit
pub record Shows (r : LineReader) (raw : List ℕ) : Type 0 where
  pub is : line_of r ≡ without_return raw
  pub short : length (line_of r) ≤ limit_of r

-- the raw line is too long to be shown; first is its first byte that isn't blank
pub record IsTooLong (longest : ℕ) (raw : List ℕ) (first : Option ℕ) : Type 0 where
  pub long : longest < length (without_return raw)
  pub first_is : first ≡ first_byte raw

-- a dropped carriage return is the first byte that isn't blank only of a line that has no other
pub record IsFirstOf (raw_first line_first : Option ℕ) : Type 0 where
  pub cases : (raw_first ≡ line_first) ⊎ ((raw_first ≡ Some 13) × (line_first ≡ None))

-- the same of the line that the raw line stands for
pub record IsLongLine (longest : ℕ) (line : List ℕ) (first : Option ℕ) : Type 0 where
  pub long : longest < length line
  pub first_is : IsFirstOf first (first_byte line)

-- the lines may take so many bytes less, and the limit is the same
pub record HasTaken (old new : LineReader) (bytes : ℕ) : Type 0 where
  pub count : budget new + bytes ≡ budget old
  pub longest : limit_of new ≡ limit_of old

-- the bytes of the text that come before this rest have no line feed
pub record IsCutOff (text raw rest : List ℕ) : Type 0 where
  pub no_feed : HasNoFeed raw
  pub is : text ≡ raw ++ rest

-- one byte more than the lines may take, and no line feed before it
pub record IsSpent (text raw rest : List ℕ) (byte most : ℕ) : Type 0 where
  pub no_feed : HasNoFeed raw
  pub is : text ≡ raw ++ byte ∷ rest
  pub count : length raw ≡ most

abbrev pub Steps : LineReader → LineReader → List ℕ → List ℕ → Advance → Type 0
Steps old new text rest Whole = (raw : List ℕ) × IsLine text raw (held new ++ rest) × HasTaken old new (length raw + 1) × Shows new raw
Steps old new text rest Last = (raw : List ℕ) × IsLastLine text raw (held new ++ rest) × HasTaken old new (length raw) × Shows new raw
Steps old new text rest (Long true first) = (raw : List ℕ) × IsLine text raw (held new ++ rest) × HasTaken old new (length raw + 1) × IsTooLong (limit_of old) raw first
Steps old new text rest (Long false first) = (raw : List ℕ) × IsLastLine text raw (held new ++ rest) × HasTaken old new (length raw) × IsTooLong (limit_of old) raw first
Steps old new text rest End = (text ≡ []) × (rest ≡ [])
Steps old new text rest Spent = (raw : List ℕ) × (byte : ℕ) × IsSpent text raw rest byte (budget old)
Steps old new text rest Failed = (raw : List ℕ) × IsCutOff text raw rest

-- a line was handed out, and more may follow
abbrev pub GoesOn : Advance → Type 0
GoesOn Whole = Unit {0}
GoesOn Last = ⊥
GoesOn (Long true first) = Unit {0}
GoesOn (Long false first) = ⊥
GoesOn End = ⊥
GoesOn Spent = ⊥
GoesOn Failed = ⊥

-- a line is shown
abbrev pub IsShown : Advance → Type 0
IsShown Whole = Unit {0}
IsShown Last = Unit {0}
IsShown (Long whole first) = ⊥
IsShown End = ⊥
IsShown Spent = ⊥
IsShown Failed = ⊥
