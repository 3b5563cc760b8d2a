-- The pieces of a list of plateaus, each put to an oracle of its own.
--   CanTest graph x ss part os   the plateaus ss may be put to the oracles os, in pieces numbered from `part` on: there is
--                          an oracle, each has the distances of the graph, and the numbers fit their type
--   HaveTested graph asked x ss old new   the oracles, as they were and as they are after ss were put to them: none
--                          changed its graph, no count of questions has fallen, and together they asked what ss may take
--   HaveAllSameDist graph g os   each of the oracles has the distances of g
--   StayCounted asked old new    the count of each hasn't fallen
use Rattle.std.specs.Prelude.{◌≡◌, ◌<◌, ◌≤◌, ◌+◌, ◌^◌, ℕ, List, length, map, All}
use Rattle.std.specs.List.{AllZip, sum_by}
use Rattle.road_model.specs.Graph.{Graph}
use Rattle.road_model.specs.Dist.{HaveSameDist}
use Rattle.via_search.specs.declared.sifting.Sifted.{Sifted}
use Rattle.via_search.specs.Settings.{Givens}
use Rattle.via_search.specs.Candidates.{IsBoundOf}
use Rattle.via_search.specs.Judging.{StaysCounted}
use Rattle.via_search.specs.Sifting.{IsSifted, AsksForAll}

abbrev pub HaveAllSameDist : {T : Type 0} → (T → Graph) → Graph → List T → Type 0
HaveAllSameDist graph g os = All (λ o. HaveSameDist g (graph o)) os

abbrev pub StayCounted : {T : Type 0} → (T → ℕ) → List T → List T → Type 0
StayCounted asked old new = AllZip (λ a b. StaysCounted (asked a) (asked b)) old new

pub record CanTest {T : Type 0} (graph : T → Graph) (x : Givens) (ss : List Sifted) (part : ℕ) (os : List T) : Type 0 where
  pub some : 0 < length os
  pub few : part + length os ≤ 2 ^ 32
  pub same : HaveAllSameDist graph x.graph os
  pub bound : IsBoundOf x.query x.optimum.length x.reach
  pub sifted : All (IsSifted x) ss

pub record HaveTested {T : Type 0} (graph : T → Graph) (asked : T → ℕ) (x : Givens) (ss : List Sifted) (old new : List T) : Type 0 where
  pub same : map graph new ≡ map graph old
  pub counted : StayCounted asked old new
  pub asks : AsksForAll x ss (sum_by asked old) (sum_by asked new)
