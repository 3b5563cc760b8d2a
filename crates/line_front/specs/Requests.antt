-- What a request line says. Its fields are what stands between blanks, and its first field is the word of the request.
--   longest            the longest line, its end not counted
--   is_slash b         the byte is a slash
--   ratio_of field     the two numbers of a field `N/D`
--   no_options         no option is given
--   fresh old value    the value of an option that isn't given yet; none where it is
--   with_option name value o   the options with one more; none where its name is unknown or given already, or its value
--                      isn't as it should be
--   options_of fields  the options that pairs of fields give, a name and its value; none where one of them is refused,
--                      or a name has no value
--   query_with ends o  the query of a source and a target, with the ratios given and the usual ones for the others
--   two_numbers fields   the numbers of two fields, where there are no others
--   best_of, length_of, route_of, why_of, next_of   the request of the fields after the word `optimum`, `length`,
--                      `route`, `why` or `next`; none where they don't make one
--   route_with given   a request for a first page, whose size is 5 where none is given
--   why_with given     a request for a verdict; none where a size is given
--   or_bad cursor      the request for the page of a cursor; where the text is no cursor, one that says so
--   alone r fields     this request, where no field follows its word
--   request_of word fields   the request of a word and the fields after it
--   is_publisher role, is_reader role   who has this role may publish, or may ask for routes
--   may_ask role r     the request is one for this role
--   for_role role r    what a line is that makes this request or none
--   by_fields role fields   what a line of these fields is
--   parsed_of role line   the line is too long, or says nothing, or is a request for this role, or is none
use Rattle.std.specs.Prelude.{ℕ, ◌==◌, Bool, true, false, List, [], ◌∷◌, Option, Some, None, length, codes, nat_lt, unwrap_or, is_some, if◌then◌else◌}
use Rattle.std.specs.List.{before_first, after_first}
use Rattle.std.specs.Option.{option_map, option_zip, option_and_then}
use Rattle.std.specs.Str.{bytes_eq}
use Rattle.road_text.specs.Fields.{fields_of}
use Rattle.road_text.specs.Numbers.{number_of}
use Rattle.road_model.specs.declared.request.Cursor.{Cursor}
use Rattle.road_model.specs.declared.request.CursorQuery.{CursorQuery}
use Rattle.road_model.specs.declared.request.ErrorKind.TheVariants as error
use Rattle.road_model.specs.declared.request.Request.{Request}
use Rattle.road_model.specs.declared.request.Request.TheVariants.{Best, Route, Next, BadCursor, Why, Version, Length, Publish, Quit}
use Rattle.road_model.specs.Queries.{usual_numbers}
use Rattle.route_ranking.specs.Cursors.{cursor_of}
use Rattle.line_front.specs.declared.options.Options.{Options}
use Rattle.line_front.specs.declared.requests.Parsed.{Parsed}
use Rattle.line_front.specs.declared.requests.Parsed.TheVariants as parsed
use Rattle.line_front.specs.declared.requests.Role.{Role}
use Rattle.line_front.specs.declared.requests.Role.TheVariants as role

-- the longest line, its end not counted
abbrev pub longest : ℕ
longest = 1024

abbrev pub is_slash : ℕ → Bool
is_slash b = b == 47

unfoldable pub ratio_of : List ℕ → Option (ℕ × ℕ)
ratio_of field = option_zip (number_of (before_first is_slash field)) (number_of (after_first is_slash field))

-- ---- options

abbrev pub no_options : Options
no_options = record { gamma = None; alpha = None; epsilon = None; since = None; size = None }

-- a value for an option that isn't given yet
abbrev pub fresh : {A : Type 0} → Option A → Option A → Option A
fresh None value = value
fresh (Some given) value = None

abbrev pub with_option : List ℕ → List ℕ → Options → Option Options
with_option name value o =
    if bytes_eq name (codes "gamma") then option_map (λ r. record o { gamma = Some r }) (fresh o.gamma (ratio_of value))
    else (if bytes_eq name (codes "alpha") then option_map (λ r. record o { alpha = Some r }) (fresh o.alpha (ratio_of value))
    else (if bytes_eq name (codes "epsilon") then option_map (λ r. record o { epsilon = Some r }) (fresh o.epsilon (ratio_of value))
    else (if bytes_eq name (codes "since") then option_map (λ n. record o { since = Some n }) (fresh o.since (number_of value))
    else (if bytes_eq name (codes "size") then option_map (λ n. record o { size = Some n }) (fresh o.size (number_of value))
    else None))))

unfoldable pub options_of : List (List ℕ) → Option Options
options_of [] = Some no_options
options_of (name ∷ []) = None
options_of (name ∷ value ∷ fields) = option_and_then (with_option name value) (options_of fields)

abbrev pub query_with : ℕ × ℕ → Options → CursorQuery
query_with ends o = record {
  from = ends.0;
  to = ends.1;
  gamma = unwrap_or o.gamma (usual_numbers ends.0 ends.1).gamma;
  alpha = unwrap_or o.alpha (usual_numbers ends.0 ends.1).alpha;
  epsilon = unwrap_or o.epsilon (usual_numbers ends.0 ends.1).epsilon;
}

-- ---- requests, each of the fields after its word

abbrev pub two_numbers : List (List ℕ) → Option (ℕ × ℕ)
two_numbers [] = None
two_numbers (a ∷ []) = None
two_numbers (a ∷ b ∷ []) = option_zip (number_of a) (number_of b)
two_numbers (a ∷ b ∷ c ∷ fields) = None

abbrev pub best_of : List (List ℕ) → Option Request
best_of fields = option_map (λ (ends : ℕ × ℕ). Best ends.0 ends.1) (two_numbers fields)

abbrev pub length_of : List (List ℕ) → Option Request
length_of fields = option_map (λ (change : ℕ × ℕ). Length change.0 change.1) (two_numbers fields)

abbrev pub route_with : (ℕ × ℕ) × Options → Request
route_with given = Route (query_with given.0 given.1) (unwrap_or given.1.size 5) given.1.since

abbrev pub route_of : List (List ℕ) → Option Request
route_of [] = None
route_of (s ∷ []) = None
route_of (s ∷ t ∷ fields) = option_map route_with (option_zip (option_zip (number_of s) (number_of t)) (options_of fields))

-- a verdict has no pages, so the size of a page is no option of it
abbrev pub why_with : ((ℕ × ℕ) × ℕ) × Options → Option Request
why_with given =
    if is_some given.1.size then None
    else Some (Why (query_with given.0.0 given.1) given.0.1 given.1.since)

abbrev pub why_of : List (List ℕ) → Option Request
why_of [] = None
why_of (s ∷ []) = None
why_of (s ∷ t ∷ []) = None
why_of (s ∷ t ∷ v ∷ fields) =
    option_and_then why_with
    (option_zip (option_zip (option_zip (number_of s) (number_of t)) (number_of v)) (options_of fields))

abbrev pub or_bad : Option Cursor → Request
or_bad None = BadCursor
or_bad (Some cursor) = Next cursor

abbrev pub next_of : List (List ℕ) → Option Request
next_of [] = None
next_of (text ∷ []) = Some (or_bad (cursor_of text))
next_of (text ∷ more ∷ fields) = None

abbrev pub alone : Request → List (List ℕ) → Option Request
alone request [] = Some request
alone request (field ∷ fields) = None

abbrev pub request_of : List ℕ → List (List ℕ) → Option Request
request_of word fields =
    if bytes_eq word (codes "optimum") then best_of fields
    else (if bytes_eq word (codes "route") then route_of fields
    else (if bytes_eq word (codes "next") then next_of fields
    else (if bytes_eq word (codes "why") then why_of fields
    else (if bytes_eq word (codes "version") then alone Version fields
    else (if bytes_eq word (codes "length") then length_of fields
    else (if bytes_eq word (codes "publish") then alone Publish fields
    else (if bytes_eq word (codes "quit") then alone Quit fields
    else None)))))))

-- ---- roles

abbrev pub is_publisher : Role → Bool
is_publisher role.Both = true
is_publisher role.Reader = false
is_publisher role.Publisher = true

abbrev pub is_reader : Role → Bool
is_reader role.Both = true
is_reader role.Reader = true
is_reader role.Publisher = false

abbrev pub may_ask : Role → Request → Bool
may_ask who (Best from to) = is_reader who
may_ask who (Route query size since) = is_reader who
may_ask who (Next cursor) = is_reader who
may_ask who BadCursor = is_reader who
may_ask who (Why query via since) = is_reader who
may_ask who Version = true
may_ask who (Length arc length) = is_publisher who
may_ask who Publish = is_publisher who
may_ask who Quit = true

abbrev pub for_role : Role → Option Request → Parsed
for_role who None = parsed.Error error.Syntax
for_role who (Some request) = if may_ask who request then parsed.Request request else parsed.Error error.Syntax

abbrev pub by_fields : Role → List (List ℕ) → Parsed
by_fields who [] = parsed.Empty
by_fields who (word ∷ fields) = for_role who (request_of word fields)

unfoldable pub parsed_of : Role → List ℕ → Parsed
parsed_of who line = if nat_lt longest (length line) then parsed.Error error.Long else by_fields who (fields_of line)
