-- How far a text has been read.
--   IsBeyond most spare text rest before   the text goes on with this rest after the lines before, which all
--                                          have their line feeds; of most bytes the lines to come may take spare
--   IsRead most text all                   the text was read to its end
--   IsBroken text rest before              a read failed after the lines before
--   IsOver most text before                the text has more bytes than its lines may take
-- A text and its rest are what a source tells, with what a reader holds. Two texts that go on alike have lines
-- that go on alike, whatever follows: so a state that the lines before give is kept beside one of these.
use Rattle.std.specs.Prelude.{◌≡◌, ℕ, ◌+◌, ◌<◌, ◌≤◌, List, ◌++◌, length, take}
use Rattle.road_text.specs.Lines.{lines_of, whole_lines}

pub record IsBeyond (most spare : ℕ) (text rest : List ℕ) (before : List (List ℕ)) : Type 0 where
  pub given : List ℕ
  pub is : text ≡ given ++ rest
  pub lines : (more : List ℕ) → lines_of (given ++ more) ≡ before ++ lines_of more
  pub whole : (more : List ℕ) → whole_lines (given ++ more) ≡ before ++ whole_lines more
  pub count : length given + spare ≡ most

-- the whole text was read, and these are its lines
pub record IsRead (most : ℕ) (text : List ℕ) (all : List (List ℕ)) : Type 0 where
  pub lines : lines_of text ≡ all
  pub short : length text ≤ most

-- a read failed: these bytes were taken, and their whole lines are the lines before
pub record IsBroken (text rest : List ℕ) (before : List (List ℕ)) : Type 0 where
  pub taken : List ℕ
  pub is : text ≡ taken ++ rest
  pub whole : whole_lines taken ≡ before

-- there are more bytes than the lines may take, and the lines that end among those are the lines before
pub record IsOver (most : ℕ) (text : List ℕ) (before : List (List ℕ)) : Type 0 where
  pub long : most < length text
  pub whole : whole_lines (take most text) ≡ before
