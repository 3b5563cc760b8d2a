-- How a line is cut into fields.
--   is_blank b       the byte is a space or a tab
--   has_bytes piece  it has a byte
--   fields_of line   the runs of bytes that aren't blank
--   first_byte line  its first byte that isn't blank, where there is one
--   or_first         the same of a line in two parts, from those of the parts
-- Blanks before the first field and after the last one mean nothing. A carriage return inside a line is
-- a byte of a field as any other.
use Rattle.std.specs.Prelude.{ℕ, ◌==◌, ◌||◌, Bool, true, false, List, [], ◌∷◌, Option, Some, None, filter, if◌then◌else◌}
use Rattle.std.specs.List.{slice_split}

abbrev pub is_blank : ℕ → Bool
is_blank b = b == 32 || b == 9

-- whether a piece between two blanks has a byte
abbrev pub has_bytes : List ℕ → Bool
has_bytes [] = false
has_bytes (b ∷ bs) = true

unfoldable pub fields_of : List ℕ → List (List ℕ)
fields_of line = filter has_bytes (slice_split is_blank line)

unfoldable pub first_byte : List ℕ → Option ℕ
first_byte [] = None
first_byte (b ∷ bs) = if is_blank b then first_byte bs else Some b

-- the first of two, where there is one
abbrev pub or_first : Option ℕ → Option ℕ → Option ℕ
or_first None later = later
or_first (Some b) later = Some b
