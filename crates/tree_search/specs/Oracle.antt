-- An oracle that answers by a search.
--   IsReady g m    all lengths and distances are below 2^57, and its memory can be reset
use Rattle.std.specs.Prelude.{◌≡◌, ◌+◌, ◌^◌, length}
use Rattle.road_model.specs.Graph.{Graph, LengthsBelow}
use Rattle.road_model.specs.Dist.{DistsBelow}
use Rattle.label_setting.specs.declared.memory.SearchMemory.{SearchMemory}
use Rattle.label_setting.specs.Search.{IsTracked}

pub record IsReady (g : Graph) (m : SearchMemory) : Type 0 where
  pub short : LengthsBelow g (2 ^ 57)
  pub near : DistsBelow g (2 ^ 57)
  pub size : length m.labels.items ≡ g.vertices + 1
  pub tracked : IsTracked m.labels.items m.touched.items
