-- What the tests of a request come to.
--   IsOutcome limits request result   its outcome, and what is asked speaks of vertices and arcs that are there
--   vertex_in, ratio_in, query_in     a vertex, a ratio of at most a cap, and a query from their numbers, where these are
--                                     in range
use Rattle.std.specs.Prelude.{◌≡◌, ℕ, [], ◌∷◌, Option, Some, None, Result, Ok, Err, IfOk, if◌then◌else◌}
use Rattle.road_model.specs.declared.answer.Query.{Query}
use Rattle.road_model.specs.declared.request.CursorQuery.{CursorQuery}
use Rattle.road_model.specs.declared.request.ErrorKind.{ErrorKind}
use Rattle.road_model.specs.declared.request.ErrorKind.TheVariants as error
use Rattle.road_model.specs.declared.request.Request.{Request}
use Rattle.road_model.specs.Fraction.{Fraction}
use Rattle.road_model.specs.Queries.{query_of, ratio}
use Rattle.desk_core.specs.declared.refusals.Limits.{Limits}
use Rattle.desk_core.specs.declared.refusals.Asked.{Asked}
use Rattle.desk_core.specs.Refusals.{outcome, are_vertices, are_ratios, is_within, is_ratio, IsInRange}

pub record IsOutcome (limits : Limits) (request : Request) (result : Result Asked ErrorKind) : Type 0 where
  pub is : result ≡ outcome limits request
  pub ranges : IfOk result (IsInRange limits)

abbrev pub vertex_in : ℕ → ℕ → Option ℕ
vertex_in vertices n = if is_within 1 vertices n then Some n else None

abbrev pub ratio_in : ℕ → ℕ × ℕ → Option Fraction
ratio_in cap r = if is_ratio cap r then Some (ratio r.0 r.1) else None

abbrev pub query_in : Limits → CursorQuery → Result Query ErrorKind
query_in limits q =
    if are_vertices limits (q.from ∷ q.to ∷ []) then (if are_ratios q then Ok (query_of q) else Err error.Ratio)
    else Err error.Vertex
