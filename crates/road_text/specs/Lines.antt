-- How a text is cut into lines.
--   raw_lines text       its pieces between line feeds; bytes after the last line feed are a last piece
--   onto_whole b pieces  a byte put before the first piece, where there is one
--   whole_raw_lines text those pieces that have their line feed
--   without_return raw   the piece without one carriage return at its end
--   lines_of text        the lines of the text: each piece without its carriage return
--   whole_lines text     the lines that have their line feed
--   HasNoFeed raw        no byte of it is a line feed
-- A text of no bytes has no line. A line feed is byte 10, a carriage return byte 13.
use Rattle.std.specs.Prelude.{ℕ, ◌-◌, ◌≢◌, ◌==◌, List, [], ◌∷◌, length, take, map, slice_index, if◌then◌else◌}
use Rattle.std.specs.List.{onto_first, AllByRecursion}

unfoldable pub raw_lines : List ℕ → List (List ℕ)
raw_lines [] = []
raw_lines (b ∷ bs) = if b == 10 then [] ∷ raw_lines bs else onto_first b (raw_lines bs)

-- a byte onto the first piece, where there is one
abbrev pub onto_whole : ℕ → List (List ℕ) → List (List ℕ)
onto_whole b [] = []
onto_whole b (piece ∷ pieces) = (b ∷ piece) ∷ pieces

unfoldable pub whole_raw_lines : List ℕ → List (List ℕ)
whole_raw_lines [] = []
whole_raw_lines (b ∷ bs) = if b == 10 then [] ∷ whole_raw_lines bs else onto_whole b (whole_raw_lines bs)

unfoldable pub without_return : List ℕ → List ℕ
without_return raw = if slice_index raw (length raw - 1) == 13 then take (length raw - 1) raw else raw

unfoldable pub lines_of : List ℕ → List (List ℕ)
lines_of text = map without_return (raw_lines text)

unfoldable pub whole_lines : List ℕ → List (List ℕ)
whole_lines text = map without_return (whole_raw_lines text)

abbrev pub HasNoFeed : List ℕ → Type 0
HasNoFeed raw = AllByRecursion (λ b. b ≢ 10) raw
