-- The walk that a test is handed, as places, and what a test answers.
--   IsViaWalk o t via      t is the trail of a walk whose part up to the place via, and whose part from there
--                          on, are shortest walks of one graph that has the vertices and distances of o
--   FindsLeast F result    None where no pair fails; else the failing pair with the least first, then the
--                          least last place
--   AsksWithin old new n   a count of questions has risen by at most n, and has not fallen if it is within
--                          the count's type
use Rattle.std.specs.Prelude.{◌≡◌, ◌<◌, ◌≤◌, ◌+◌, ◌^◌, ◌++◌, ℕ, List, length, Option, MatchOption}
use Rattle.road_model.specs.declared.answer.Pair.{Pair}
use Rattle.road_model.specs.declared.trail.Trail.{Trail}
use Rattle.road_model.specs.Graph.{Graph, IsGraph, IsVertex}
use Rattle.road_model.specs.Walk.{walk_length}
use Rattle.road_model.specs.Dist.{IsShortest, HaveSameDist}
use Rattle.road_model.specs.Places.{trail_of}
use Rattle.road_model.specs.Tests.{NoneFails, IsLeastFailure}

pub record IsViaWalk (o : Graph) (t : Trail) (via : ℕ) : Type 0 where
  pub graph : Graph
  pub same : HaveSameDist graph o
  pub sound : IsGraph graph
  pub source : ℕ
  pub middle : ℕ
  pub target : ℕ
  pub inside : IsVertex graph.vertices source
  pub prefix : List ℕ
  pub back : List ℕ
  pub prefix_shortest : IsShortest graph source prefix middle
  pub back_shortest : IsShortest graph middle back target
  pub is : t ≡ trail_of graph source (prefix ++ back)
  pub place : via ≡ length prefix
  pub few : length (prefix ++ back) + 1 < 2 ^ 32
  pub short : walk_length graph (prefix ++ back) < 2 ^ 58

abbrev pub FindsLeast : (ℕ → ℕ → ℕ → Type 0) → Option Pair → Type 0
FindsLeast F result = MatchOption result (NoneFails F) (λ pair. IsLeastFailure F pair.first pair.last pair.distance)

pub record AsksWithin (old new n : ℕ) : Type 0 where
  pub few : new ≤ old + n
  pub counted : old < 2 ^ 64 → (old ≤ new) × (new < 2 ^ 64)
