-- What a clause sees of an oracle.
--   Questions   its graph, and how many questions it answered
use Rattle.std.specs.Prelude.{ℕ}
use Rattle.road_model.specs.Graph.{Graph}

pub record Questions : Type 0 where
  pub graph : Graph
  pub asked : ℕ
