-- The oracle of a version.
--   asked_graph o   the graph that it answers for, whether by climbs in a hierarchy or by plain searches
--   asked_count o   how many questions it answered
use Rattle.std.specs.Prelude.{ℕ}
use Rattle.road_model.specs.Graph.{Graph}
use Rattle.route_engine.specs.declared.version_oracle.VersionOracle.{VersionOracle}
use Rattle.route_engine.specs.declared.version_oracle.VersionOracle.TheVariants.{Climbing, Plain}

abbrev pub asked_graph : VersionOracle → Graph
asked_graph (Climbing o) = o.graph
asked_graph (Plain o) = o.graph

abbrev pub asked_count : VersionOracle → ℕ
asked_count (Climbing o) = o.asked
asked_count (Plain o) = o.asked
