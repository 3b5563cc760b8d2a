-- An arc line in its common form.
--   IsNumberField line at n to   a field begins at place at, ends before place to, and is the number n
--   AreArcFields                 the line is no comment, and its fields are `a` and three numbers
use Rattle.std.specs.Prelude.{◌≡◌, ℕ, ◌<◌, ◌≤◌, true, false, List, [], ◌∷◌, Some, length, drop, codes, slice_index, slice_range}
use Rattle.road_text.specs.Fields.{is_blank, fields_of}
use Rattle.road_text.specs.Numbers.{number_of}
use Rattle.dimacs_reader.specs.Gr.{is_comment}

pub record IsNumberField (line : List ℕ) (at n to : ℕ) : Type 0 where
  pub some : at < to
  pub within : to ≤ length line
  pub field : fields_of (drop at line) ≡ slice_range line at to ∷ fields_of (drop to line)
  pub number : number_of (slice_range line at to) ≡ Some n
  pub beyond : to < length line → is_blank (slice_index line to) ≡ true

pub record AreArcFields (line : List ℕ) (tail head len : ℕ) : Type 0 where
  pub first : List ℕ
  pub second : List ℕ
  pub third : List ℕ
  pub fields : fields_of line ≡ codes "a" ∷ first ∷ second ∷ third ∷ []
  pub tail_is : number_of first ≡ Some tail
  pub head_is : number_of second ≡ Some head
  pub length_is : number_of third ≡ Some len
  pub shown : is_comment line ≡ false
