-- What a request is tested for before it is answered, in this order; the first test that fails names the refusal.
--   cursor    the text is a cursor
--   vertex    each vertex is one of the graph's
--   ratio     gamma and alpha are at most 1, epsilon at most 4, and their denominators 1 to 1000000
--   size      the size of a page is 1 to 64
--   behind    the version that was asked for isn't newer than the pinned one
--   gone      a cursor's version is the pinned one, or its answer is kept
--   arc       the arc is one of the graph's
--   length    the length is 1 to MAX_LENGTH
--   full      the version isn't the last that there may be
--   is_within low high n   n is one of the numbers from low to high
--   are_vertices limits vs   each of these is a vertex of the graph
--   is_ratio cap r       a numerator and a denominator pass the test of a ratio that is at most cap
--   are_ratios q         the three ratios of a query pass it
--   is_newer since n     a version newer than n was asked for
--   passed tests asked   the refusal of the first test that fails, or else what is asked
--   best_tests, route_tests, next_tests, why_tests   the tests of these requests
--   outcome limits r     the refusal of a request, or else what it asks, by numbers that are in range
--   AreEnds limits s t   the source and the target of a query are vertices of the graph
--   IsInRange limits a   what is asked speaks of vertices and arcs that are there
use Rattle.std.specs.Prelude.{ℕ, ◌*◌, ◌==◌, ◌&&◌, not, Bool, false, true, List, [], ◌∷◌, Option, Some, None, Result, Ok, Err, nat_lt, nat_le, if◌then◌else◌}
use Rattle.road_model.specs.declared.request.Request.{Request}
use Rattle.road_model.specs.declared.request.Request.TheVariants as the
use Rattle.road_model.specs.declared.request.ErrorKind.{ErrorKind}
use Rattle.road_model.specs.declared.request.ErrorKind.TheVariants as error
use Rattle.road_model.specs.declared.request.Cursor.{Cursor}
use Rattle.road_model.specs.declared.request.CursorQuery.{CursorQuery}
use Rattle.road_model.specs.Graph.{IsVertex}
use Rattle.road_model.specs.Queries.{query_of}
use Rattle.road_model.specs.declared.graph_file.TheConstants.{MAX_LENGTH}
use Rattle.road_model.specs.declared.planner.TheConstants.{LAST_VERSION}
use Rattle.desk_core.specs.declared.refusals.Limits.{Limits}
use Rattle.desk_core.specs.declared.refusals.Asked.{Asked}
use Rattle.desk_core.specs.declared.refusals.Asked.TheVariants as asked

abbrev pub is_within : ℕ → ℕ → ℕ → Bool
is_within low high n = nat_le low n && nat_le n high

abbrev pub are_vertices : Limits → List ℕ → Bool
are_vertices limits [] = true
are_vertices limits (v ∷ vs) = is_within 1 limits.vertices v && are_vertices limits vs

abbrev pub is_ratio : ℕ → ℕ × ℕ → Bool
is_ratio cap r = is_within 1 1000000 r.1 && nat_le r.0 (cap * r.1)

abbrev pub are_ratios : CursorQuery → Bool
are_ratios q = is_ratio 1 q.gamma && (is_ratio 1 q.alpha && is_ratio 4 q.epsilon)

abbrev pub is_newer : Option ℕ → ℕ → Bool
is_newer None number = false
is_newer (Some since) number = nat_lt number since

-- each test says whether it fails, and with which refusal
abbrev pub passed : List (Bool × ErrorKind) → Asked → Result Asked ErrorKind
passed [] asked = Ok asked
passed (test ∷ tests) asked = if test.0 then Err test.1 else passed tests asked

abbrev pub best_tests : Limits → ℕ → ℕ → List (Bool × ErrorKind)
best_tests limits from to = (not (are_vertices limits (from ∷ to ∷ [])), error.Vertex) ∷ []

abbrev pub route_tests : Limits → CursorQuery → ℕ → Option ℕ → List (Bool × ErrorKind)
route_tests limits q size since =
    (not (are_vertices limits (q.from ∷ q.to ∷ [])), error.Vertex)
    ∷ (not (are_ratios q), error.Ratio)
    ∷ (not (is_within 1 64 size), error.Size)
    ∷ (is_newer since limits.number, error.Behind limits.number)
    ∷ []

abbrev pub next_tests : Limits → Cursor → List (Bool × ErrorKind)
next_tests limits c =
    (not (are_vertices limits (c.query.from ∷ c.query.to ∷ [])), error.Vertex)
    ∷ (not (are_ratios c.query), error.Ratio)
    ∷ (not (is_within 1 64 c.size), error.Size)
    ∷ (not (c.version == limits.number) && not limits.kept, error.Gone limits.number)
    ∷ []

abbrev pub why_tests : Limits → CursorQuery → ℕ → Option ℕ → List (Bool × ErrorKind)
why_tests limits q via since =
    (not (are_vertices limits (q.from ∷ q.to ∷ via ∷ [])), error.Vertex)
    ∷ (not (are_ratios q), error.Ratio)
    ∷ (is_newer since limits.number, error.Behind limits.number)
    ∷ []

abbrev pub outcome : Limits → Request → Result Asked ErrorKind
outcome limits (the.Best from to) = passed (best_tests limits from to) (asked.Best from to)
outcome limits (the.Route q size since) = passed (route_tests limits q size since) (asked.Page limits.number (query_of q) size 0)
outcome limits (the.Next c) = passed (next_tests limits c) (asked.Page c.version (query_of c.query) c.size c.offset)
outcome limits the.BadCursor = Err error.Cursor
outcome limits (the.Why q via since) = passed (why_tests limits q via since) (asked.Why (query_of q) via)
outcome limits the.Version = Ok asked.Version
outcome limits (the.Length arc length) = passed (
    (not (is_within 1 limits.arcs arc), error.ArcRange)
    ∷ (not (is_within 1 MAX_LENGTH length), error.LengthRange)
    ∷ [])
    (asked.Length (record { arc = arc; length = length }))
outcome limits the.Publish = passed (
    (limits.number == LAST_VERSION, error.Full)
    ∷ [])
    asked.Publish
outcome limits the.Quit = Ok asked.Quit

pub record AreEnds (limits : Limits) (from to : ℕ) : Type 0 where
  pub source : IsVertex limits.vertices from
  pub target : IsVertex limits.vertices to

abbrev pub IsInRange : Limits → Asked → Type 0
IsInRange limits (asked.Best from to) = AreEnds limits from to
IsInRange limits (asked.Page number q size offset) = AreEnds limits q.from q.to
IsInRange limits (asked.Why q via) = AreEnds limits q.from q.to × IsVertex limits.vertices via
IsInRange limits asked.Version = Unit {0}
IsInRange limits (asked.Length change) = IsVertex limits.arcs change.arc
IsInRange limits asked.Publish = Unit {0}
IsInRange limits asked.Quit = Unit {0}
