-- Numbers as texts write them.
--   is_number field      1 to 19 decimal digits, leading zeros included
--   number_of field      the number that they write, where the field is one
--   has_leading_zero field   a zero stands before another digit
--   canonical_of field   the same, where no needless zero leads
-- The canonical digits of a number are std's `decimal`.
use Rattle.std.specs.Prelude.{ℕ, ◌==◌, ◌&&◌, Bool, List, Option, Some, None, length, slice_index, nat_lt, nat_le, if◌then◌else◌}
use Rattle.std.specs.Str.{all_ascii_digits}
use Rattle.std.specs.Str.Parse.{digits_value}

abbrev pub is_number : List ℕ → Bool
is_number field = (nat_lt 0 (length field) && nat_le (length field) 19) && all_ascii_digits field

unfoldable pub number_of : List ℕ → Option ℕ
number_of field = if is_number field then Some (digits_value 10 field) else None

-- a zero stands before another digit
abbrev pub has_leading_zero : List ℕ → Bool
has_leading_zero field = slice_index field 0 == 48 && nat_lt 1 (length field)

unfoldable pub canonical_of : List ℕ → Option ℕ
canonical_of field = if has_leading_zero field then None else number_of field
