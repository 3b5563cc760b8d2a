-- A cursor as a text: eleven canonical numbers with a dot between each two.
--   numbers_of c     its numbers, in the order of the text
--   cursor_text c    the text
--   with_number n ns   a number before others, where all are given
--   all_numbers fields   the numbers of all fields, where each is canonical
--   query_from ns    the query of a cursor of these numbers
--   cursor_with ns   the cursor of these numbers
--   of_eleven ns     the same, where they are given and are eleven
--   cursor_of text   the cursor of a text, where it is one: its numbers have at most 19 digits
--   IsSmall c        each of its numbers is below 10^19, so that its text is in the grammar
use Rattle.std.specs.Prelude.{ℕ, ◌<◌, ◌^◌, ◌==◌, List, [], ◌∷◌, Option, Some, None, All, map, length, slice_index, decimal, if◌then◌else◌}
use Rattle.std.specs.List.{join_with_byte, slice_split}
use Rattle.road_model.specs.declared.request.Cursor.{Cursor}
use Rattle.road_model.specs.declared.request.CursorQuery.{CursorQuery}
use Rattle.road_text.specs.Numbers.{canonical_of}

abbrev pub numbers_of : Cursor → List ℕ
numbers_of c =
    c.version ∷ c.query.from ∷ c.query.to
    ∷ c.query.gamma.0 ∷ c.query.gamma.1 ∷ c.query.alpha.0 ∷ c.query.alpha.1 ∷ c.query.epsilon.0 ∷ c.query.epsilon.1
    ∷ c.size ∷ c.offset ∷ []

abbrev pub cursor_text : Cursor → List ℕ
cursor_text c = join_with_byte 46 (map decimal (numbers_of c))

abbrev pub IsSmall : Cursor → Type 0
IsSmall c = All (λ n. n < 10 ^ 19) (numbers_of c)

-- the numbers of all fields, where each is canonical
abbrev pub with_number : Option ℕ → Option (List ℕ) → Option (List ℕ)
with_number None others = None
with_number (Some n) None = None
with_number (Some n) (Some ns) = Some (n ∷ ns)

unfoldable pub all_numbers : List (List ℕ) → Option (List ℕ)
all_numbers [] = Some []
all_numbers (field ∷ fields) = with_number (canonical_of field) (all_numbers fields)

abbrev pub query_from : List ℕ → CursorQuery
query_from ns = record {
  from = slice_index ns 1;
  to = slice_index ns 2;
  gamma = (slice_index ns 3, slice_index ns 4);
  alpha = (slice_index ns 5, slice_index ns 6);
  epsilon = (slice_index ns 7, slice_index ns 8);
}

abbrev pub cursor_with : List ℕ → Cursor
cursor_with ns = record { version = slice_index ns 0; query = query_from ns; size = slice_index ns 9; offset = slice_index ns 10 }

abbrev pub of_eleven : Option (List ℕ) → Option Cursor
of_eleven None = None
of_eleven (Some ns) = if length ns == 11 then Some (cursor_with ns) else None

unfoldable pub cursor_of : List ℕ → Option Cursor
cursor_of text = of_eleven (all_numbers (slice_split (λ b. b == 46) text))
