-- What the lines of an input ask.
--   most_input       the most bytes of requests that a run reads
--   lines_within t   the lines of a text, where it has no more bytes; else those that end among so many bytes
--   asked_by line    what a line asks, of one who may both read and publish
--   is_quit_request r   the request ends the run
--   is_quit line     the line ends the run
--   asked_in lines   what the lines before the first such line ask, in their order
--   NoQuit lines     no line ends the run
use Rattle.std.specs.Prelude.{◌≡◌, ℕ, Bool, true, false, List, [], ◌∷◌, length, take, nat_le, if◌then◌else◌}
use Rattle.std.specs.List.{AllByRecursion}
use Rattle.road_text.specs.Lines.{lines_of, whole_lines}
use Rattle.road_model.specs.declared.request.Request.{Request}
use Rattle.road_model.specs.declared.request.Request.TheVariants as request
use Rattle.line_front.specs.declared.requests.Parsed.{Parsed}
use Rattle.line_front.specs.declared.requests.Parsed.TheVariants as parsed
use Rattle.line_front.specs.declared.requests.Role.TheVariants as role
use Rattle.line_front.specs.Requests.{parsed_of}

abbrev pub most_input : ℕ
most_input = 4294967296

abbrev pub lines_within : List ℕ → List (List ℕ)
lines_within text = if nat_le (length text) most_input then lines_of text else whole_lines (take most_input text)

abbrev pub asked_by : List ℕ → Parsed
asked_by line = parsed_of role.Both line

abbrev pub is_quit_request : Request → Bool
is_quit_request request.Quit = true
is_quit_request r = false

abbrev pub is_quit : Parsed → Bool
is_quit parsed.Empty = false
is_quit (parsed.Request r) = is_quit_request r
is_quit (parsed.Error kind) = false

unfoldable pub asked_in : List (List ℕ) → List Parsed
asked_in [] = []
asked_in (line ∷ lines) = if is_quit (asked_by line) then [] else asked_by line ∷ asked_in lines

-- no line ends the run
abbrev pub NoQuit : List (List ℕ) → Type 0
NoQuit lines = AllByRecursion (λ line. is_quit (asked_by line) ≡ false) lines
