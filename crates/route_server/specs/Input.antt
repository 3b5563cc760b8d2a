-- How far the lines of an input have been read.
--   IsAt reader text rest before   the text goes on, after the lines before, with what the reader holds and what the
--                source has left
--   OneMore      there is one more line, it asks this, and the text goes on after it
--   OneLast      there is one more line, it asks this, and is the last
--   Goes         of each text that goes on so, the next line
--     More asked   is one more, asks this, and the text goes on after it
--     Last asked   is one more, asks this, and is the last
--     End          isn't there
--     Over         doesn't end among as many bytes as may be read
--     Failed       couldn't be read
--   IsMore next  more lines may follow
use Rattle.std.specs.Prelude.{◌≡◌, ℕ, List, [], ◌∷◌, ◌++◌}
use Rattle.road_text.specs.declared.line_reader.LineReader.{LineReader}
use Rattle.road_text.specs.Reader.{held, budget}
use Rattle.road_text.specs.Progress.{IsBeyond, IsRead, IsOver, IsBroken}
use Rattle.line_front.specs.declared.requests.Parsed.{Parsed}
use Rattle.route_server.specs.declared.input.NextLine.{NextLine}
use Rattle.route_server.specs.declared.input.NextLine.TheVariants as the
use Rattle.route_server.specs.Asking.{asked_by, most_input}

abbrev pub IsAt : LineReader → List ℕ → List ℕ → List (List ℕ) → Type 0
IsAt reader text rest before = IsBeyond most_input (budget reader) text (held reader ++ rest) before

pub record OneMore (reader : LineReader) (text rest : List ℕ) (before : List (List ℕ)) (asked : Parsed) : Type 0 where
  pub line : List ℕ
  pub is : asked ≡ asked_by line
  pub beyond : IsAt reader text rest (before ++ line ∷ [])

pub record OneLast (text : List ℕ) (before : List (List ℕ)) (asked : Parsed) : Type 0 where
  pub line : List ℕ
  pub is : asked ≡ asked_by line
  pub read : IsRead most_input text (before ++ line ∷ [])

abbrev pub Goes : LineReader → LineReader → List ℕ → List ℕ → NextLine → Type 0
Goes old new rest after (the.More asked) = (text : List ℕ) (before : List (List ℕ)) → IsAt old text rest before → OneMore new text after before asked
Goes old new rest after (the.Last asked) = (text : List ℕ) (before : List (List ℕ)) → IsAt old text rest before → OneLast text before asked
Goes old new rest after the.End = (text : List ℕ) (before : List (List ℕ)) → IsAt old text rest before → IsRead most_input text before
Goes old new rest after the.Over = (text : List ℕ) (before : List (List ℕ)) → IsAt old text rest before → IsOver most_input text before
Goes old new rest after the.Failed = (text : List ℕ) (before : List (List ℕ)) → IsAt old text rest before → IsBroken text after before

abbrev pub IsMore : NextLine → Type 0
IsMore (the.More asked) = Unit {0}
IsMore (the.Last asked) = ⊥
IsMore the.End = ⊥
IsMore the.Over = ⊥
IsMore the.Failed = ⊥
