-- Small graphs on which the definitions are tried by hand.
--   arc       an arc, by its tail, its head and its length
--   graph_a   a tie: vertex 3 is 11 from vertex 1 by arc 3 and by the arcs 1 and 6
--   graph_b   a detour of two long arcs
--   graph_s   a stub at vertex 4, which a path through it enters and leaves by the same vertex
--   optimum_a, route_a   the optimum of graph A from 1 to 6, and its one alternative
--   plan_a    the answer that they make
use Rattle.std.specs.Prelude.{ℕ, [], ◌∷◌}
use Rattle.road_model.specs.declared.rows.ArcRow.{ArcRow}
use Rattle.road_model.specs.declared.answer.Optimum.{Optimum}
use Rattle.road_model.specs.declared.answer.Route.{Route}
use Rattle.road_model.specs.declared.answer.Plan.{Plan}
use Rattle.road_model.specs.declared.answer.Plan.TheVariants.{Found}
use Rattle.road_model.specs.Graph.{Graph}

abbrev pub arc : ℕ → ℕ → ℕ → ArcRow
arc tail head length = record { tail = tail; head = head; length = length }

abbrev pub graph_a : Graph
graph_a = record { vertices = 6; arcs = arc 1 2 10 ∷ arc 2 6 10 ∷ arc 1 3 11 ∷ arc 3 4 6 ∷ arc 4 6 5 ∷ arc 2 3 1 ∷ [] }

abbrev pub graph_b : Graph
graph_b = record { vertices = 6; arcs = arc 1 2 10 ∷ arc 2 6 10 ∷ arc 1 3 11 ∷ arc 3 6 11 ∷ arc 2 3 1 ∷ [] }

abbrev pub graph_s : Graph
graph_s = record { vertices = 4; arcs = arc 1 2 1 ∷ arc 2 3 1 ∷ arc 2 4 1 ∷ arc 4 2 1 ∷ [] }

abbrev pub optimum_a : Optimum
optimum_a = record { length = 20; arcs = 1 ∷ 2 ∷ [] }

abbrev pub route_a : Route
route_a = record { via = 3; length = 22; shared = 0; plateau = 6; rank = 38; arcs = 3 ∷ 4 ∷ 5 ∷ [] }

abbrev pub plan_a : Plan
plan_a = Found optimum_a (route_a ∷ [])
