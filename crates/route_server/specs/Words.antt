-- The words of a command line.
--   has_dash word      it begins with a dash
--   for_file command words   the command, where one word follows that may name a file
--   for_files command words  the command, where two words follow that may name files
--   at_most most n     the number, where it is 1 to most
--   up_to most word    the number of a word, where it is 1 to most
--   grid_of seed width height   the grid of three words
--   ends_of from to    the ends of a query, of two words
--   make_of, survey_of, certify_of   the command of the words after `make`, `survey` or `certify`
--   beyond_word word words   the command of a word and the words after it
--   command_of words   the command, where the words are those of one: `check GRAPH`, `print GRAPH`,
--                      `make SEED WIDTH HEIGHT`, `survey SEED WIDTH HEIGHT QUERIES`, `answer GRAPH`,
--                      `recheck GRAPH CERTIFICATE` or `certify GRAPH FROM TO`
--   name_of words      the second word, which is the name of the graph file where the command has one
--   other_name_of words   the third word, which is the name of the other file where the command has one
--   HasSides grid      the sides of a grid are in range
--   IsSized command    the numbers of a command are in range
-- GRAPH and CERTIFICATE begin with no dash. Numbers have 1 to 19 digits; WIDTH and HEIGHT are 1 to 4096, and QUERIES is 1 to 10000.
use Rattle.std.specs.Prelude.{ℕ, ◌≤◌, ◌==◌, ◌&&◌, ◌||◌, Bool, false, List, [], ◌∷◌, Option, Some, None, codes, nat_le, slice_index_or, if◌then◌else◌}
use Rattle.std.specs.Option.{option_map, option_zip, option_and_then}
use Rattle.std.specs.Str.{bytes_eq}
use Rattle.road_text.specs.Numbers.{number_of}
use Rattle.grid_maker.specs.Grid.{IsSide}
use Rattle.route_server.specs.declared.words.Grid.{Grid}
use Rattle.route_server.specs.declared.words.Ends.{Ends}
use Rattle.route_server.specs.declared.words.Command.{Command}
use Rattle.route_server.specs.declared.words.Command.TheVariants.{Check, Print, Make, Survey, Answer, Recheck, Certify}

abbrev pub has_dash : List ℕ → Bool
has_dash [] = false
has_dash (b ∷ bs) = b == 45

abbrev pub for_file : Command → List (List ℕ) → Option Command
for_file command [] = None
for_file command (name ∷ []) = if has_dash name then None else Some command
for_file command (name ∷ more ∷ words) = None

abbrev pub for_files : Command → List (List ℕ) → Option Command
for_files command [] = None
for_files command (name ∷ []) = None
for_files command (name ∷ other ∷ []) = if has_dash name || has_dash other then None else Some command
for_files command (name ∷ other ∷ more ∷ words) = None

abbrev pub at_most : ℕ → ℕ → Option ℕ
at_most most n = if nat_le 1 n && nat_le n most then Some n else None

-- a number from 1 to the greatest
abbrev pub up_to : ℕ → List ℕ → Option ℕ
up_to most word = option_and_then (at_most most) (number_of word)

abbrev pub grid_of : List ℕ → List ℕ → List ℕ → Option Grid
grid_of seed width height =
    option_map (λ (given : (ℕ × ℕ) × ℕ). record { seed = given.0.0; width = given.0.1; height = given.1 })
    (option_zip (option_zip (number_of seed) (up_to 4096 width)) (up_to 4096 height))

abbrev pub make_of : List (List ℕ) → Option Command
make_of [] = None
make_of (seed ∷ []) = None
make_of (seed ∷ width ∷ []) = None
make_of (seed ∷ width ∷ height ∷ []) = option_map Make (grid_of seed width height)
make_of (seed ∷ width ∷ height ∷ more ∷ words) = None

abbrev pub survey_of : List (List ℕ) → Option Command
survey_of [] = None
survey_of (seed ∷ []) = None
survey_of (seed ∷ width ∷ []) = None
survey_of (seed ∷ width ∷ height ∷ []) = None
survey_of (seed ∷ width ∷ height ∷ queries ∷ []) =
    option_map (λ (given : Grid × ℕ). Survey given.0 given.1) (option_zip (grid_of seed width height) (up_to 10000 queries))
survey_of (seed ∷ width ∷ height ∷ queries ∷ more ∷ words) = None

abbrev pub ends_of : List ℕ → List ℕ → Option Ends
ends_of from to =
    option_map (λ (given : ℕ × ℕ). record { from = given.0; to = given.1 }) (option_zip (number_of from) (number_of to))

abbrev pub certify_of : List (List ℕ) → Option Command
certify_of [] = None
certify_of (name ∷ []) = None
certify_of (name ∷ from ∷ []) = None
certify_of (name ∷ from ∷ to ∷ []) = if has_dash name then None else option_map Certify (ends_of from to)
certify_of (name ∷ from ∷ to ∷ more ∷ words) = None

abbrev pub beyond_word : List ℕ → List (List ℕ) → Option Command
beyond_word word words =
    if bytes_eq word (codes "check") then for_file Check words
    else (if bytes_eq word (codes "print") then for_file Print words
    else (if bytes_eq word (codes "make") then make_of words
    else (if bytes_eq word (codes "survey") then survey_of words
    else (if bytes_eq word (codes "answer") then for_file Answer words
    else (if bytes_eq word (codes "recheck") then for_files Recheck words
    else (if bytes_eq word (codes "certify") then certify_of words
    else None))))))

abbrev pub command_of : List (List ℕ) → Option Command
command_of [] = None
command_of (word ∷ words) = beyond_word word words

abbrev pub name_of : List (List ℕ) → List ℕ
name_of words = slice_index_or words 1 []

abbrev pub other_name_of : List (List ℕ) → List ℕ
other_name_of words = slice_index_or words 2 []

-- the numbers of a command are in range
abbrev pub HasSides : Grid → Type 0
HasSides grid = IsSide grid.width × IsSide grid.height

abbrev pub IsSized : Command → Type 0
IsSized Check = Unit {0}
IsSized Print = Unit {0}
IsSized (Make grid) = HasSides grid
IsSized (Survey grid queries) = HasSides grid × (queries ≤ 10000)
IsSized Answer = Unit {0}
IsSized Recheck = Unit {0}
IsSized (Certify ends) = Unit {0}
