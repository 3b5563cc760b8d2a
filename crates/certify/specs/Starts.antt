-- Starts: the vertices before the via of a route, each with the length of the route from there to its end.
--   IsViaRoute g from r      the arcs of the route are the path through its via, from there to some target
--   IsRouteStart g from r x k   x stands before the via on the route, and the end is k far from there
--   IsStartOf g from rs x k  it does so on one of these
--   HasStartAt ss x k        a start has the vertex and the length
--   AddsStarts g from r old new   the starts of the route are added
--   AreStartsOf g from rs ss   the starts of these routes, in any order, and each perhaps more than once
--   IsSorted ss              by rising vertex, and those of one vertex by rising length
--   IsRunEnd ss k yes        true: the start after place k has another vertex, or there is none; false: it has the same
--   IsKept ss source f       f is one of these, at another vertex than the source, and none there has a greater length
--   HasStartFrom fs v        one of these is at the vertex
--   AreFarthest ss source fs   for each vertex but the source the greatest of its starts, by rising vertex
use Rattle.std.specs.Prelude.{◌≡◌, ◌≢◌, ◌<◌, ◌≤◌, ◌⊎◌, ◌+◌, ◌++◌, ℕ, Bool, true, false, List, length, map, Contains, AllPairs}
use Rattle.std.specs.List.{slice_index_or}
use Rattle.std.specs.List.Sorted.{IsStrictlyIncreasing}
use Rattle.road_model.specs.declared.answer.Route.{Route}
use Rattle.road_model.specs.Graph.{Graph}
use Rattle.road_model.specs.Canonical.{IsFirst}
use Rattle.road_model.specs.Places.{trail_of, vertex_at, between}
use Rattle.road_model.specs.Alternatives.{IsVia}
use Rattle.certify.specs.declared.starts.Start.{Start}

pub record IsViaRoute (g : Graph) (from : ℕ) (r : Route) : Type 0 where
  pub target : ℕ
  pub through : IsVia g from target r.via r.arcs

pub record IsRouteStart (g : Graph) (from : ℕ) (r : Route) (x k : ℕ) : Type 0 where
  pub prefix : List ℕ
  pub back : List ℕ
  pub first : IsFirst g from prefix r.via
  pub joined : r.arcs ≡ prefix ++ back
  pub place : ℕ
  pub before : place < length prefix
  pub is : vertex_at (trail_of g from r.arcs) place ≡ x
  pub far : between (trail_of g from r.arcs) place (length r.arcs) ≡ k

pub record IsStartOf (g : Graph) (from : ℕ) (rs : List Route) (x k : ℕ) : Type 0 where
  pub route : Route
  pub listed : Contains rs route
  pub start : IsRouteStart g from route x k

pub record HasStartAt (ss : List Start) (x k : ℕ) : Type 0 where
  pub start : Start
  pub listed : Contains ss start
  pub at : start.vertex ≡ x
  pub long : start.rest ≡ k

pub record AddsStarts (g : Graph) (from : ℕ) (r : Route) (old new : List Start) : Type 0 where
  pub each : (s : Start) → Contains new s → Contains old s ⊎ IsRouteStart g from r s.vertex s.rest
  pub kept : (s : Start) → Contains old s → Contains new s
  pub every : (x k : ℕ) → IsRouteStart g from r x k → HasStartAt new x k

pub record AreStartsOf (g : Graph) (from : ℕ) (rs : List Route) (ss : List Start) : Type 0 where
  pub each : (s : Start) → Contains ss s → IsStartOf g from rs s.vertex s.rest
  pub every : (x k : ℕ) → IsStartOf g from rs x k → HasStartAt ss x k

-- the first is at a lower vertex, or at the same with no greater length
abbrev pub IsNoHigher : Start → Start → Type 0
IsNoHigher a b = (a.vertex < b.vertex) ⊎ ((a.vertex ≡ b.vertex) × (a.rest ≤ b.rest))

abbrev pub IsSorted : List Start → Type 0
IsSorted ss = AllPairs IsNoHigher ss

abbrev pub IsRunEnd : List Start → ℕ → Bool → Type 0
IsRunEnd ss k true = (d : Start) → k + 1 < length ss → (slice_index_or ss (k + 1) d).vertex ≢ (slice_index_or ss k d).vertex
IsRunEnd ss k false = (d : Start) → (k + 1 < length ss) × ((slice_index_or ss (k + 1) d).vertex ≡ (slice_index_or ss k d).vertex)

pub record IsKept (ss : List Start) (source : ℕ) (f : Start) : Type 0 where
  pub listed : Contains ss f
  pub other : f.vertex ≢ source
  pub greatest : (s : Start) → Contains ss s → s.vertex ≡ f.vertex → s.rest ≤ f.rest

pub record HasStartFrom (fs : List Start) (v : ℕ) : Type 0 where
  pub start : Start
  pub listed : Contains fs start
  pub at : start.vertex ≡ v

pub record AreFarthest (ss : List Start) (source : ℕ) (fs : List Start) : Type 0 where
  pub each : (f : Start) → Contains fs f → IsKept ss source f
  pub every : (s : Start) → Contains ss s → s.vertex ≢ source → HasStartFrom fs s.vertex
  pub rising : IsStrictlyIncreasing (map (λ (f : Start). f.vertex) fs)
