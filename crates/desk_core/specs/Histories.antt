-- Versions of one graph, published one after another.
--   History             the graph of version 1, and the batches that were published since
--   newest_in h         the number of the newest version: each batch makes one more
--   graph_in h n        the graph of version n
--   fault_in h batch    what keeps a batch from being published
--   grown h batch       it is published
--   AreVersions base history older newest   the versions before the newest one, in order: each has its base, and as many
--                       of its batches as versions stand before
use Rattle.std.specs.Prelude.{◌≡◌, ℕ, ◌+◌, ◌-◌, ◌<◌, List, [], ◌∷◌, ◌++◌, length, take, slice_index_or, Option}
use Rattle.road_model.specs.declared.change.Change.{Change}
use Rattle.road_model.specs.declared.change.ChangeFault.{ChangeFault}
use Rattle.road_model.specs.Graph.{Graph}
use Rattle.road_model.specs.Changes.{after_all}
use Rattle.road_model.specs.Versions.{version_fault}

pub record History : Type 0 where
  pub base : Graph
  pub batches : List (List Change)

abbrev pub newest_in : History → ℕ
newest_in h = length h.batches + 1

abbrev pub graph_in : History → ℕ → Graph
graph_in h number = after_all h.base (take (number - 1) h.batches)

abbrev pub fault_in : History → List Change → Option ChangeFault
fault_in h batch = version_fault (after_all h.base h.batches) (newest_in h) batch

abbrev pub grown : History → List Change → History
grown h batch = record h { batches = h.batches ++ batch ∷ [] }

pub record AreVersions {V : Type 0} (base : V → Graph) (history : V → List (List Change)) (older : List V) (newest : V) : Type 0 where
  pub count : length older ≡ length (history newest)
  pub bases : (k : ℕ) → k < length older → base (slice_index_or older k newest) ≡ base newest
  pub histories : (k : ℕ) → k < length older → history (slice_index_or older k newest) ≡ take k (history newest)
