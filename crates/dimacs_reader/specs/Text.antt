-- The canonical text of a graph: its problem line, and then a line for each arc, in the order of their numbers.
--   problem_text   the line `p sp N M` with its line feed
--   row_text       the line `a U V W` with its line feed
--   graph_text     the whole text
-- Numbers are canonical, and one space stands between fields.
use Rattle.std.specs.Prelude.{ℕ, List, [], ◌∷◌, ◌++◌, codes, decimal}
use Rattle.std.specs.List.{flat_map}
use Rattle.road_model.specs.declared.rows.ArcRow.{ArcRow}
use Rattle.road_model.specs.Graph.{Graph, rows_of, arc_count}

abbrev pub problem_text : ℕ → ℕ → List ℕ
problem_text vertices arcs = codes "p sp " ++ (decimal vertices ++ 32 ∷ (decimal arcs ++ 10 ∷ []))

abbrev pub row_text : ArcRow → List ℕ
row_text row = codes "a " ++ (decimal row.tail ++ 32 ∷ (decimal row.head ++ 32 ∷ (decimal row.length ++ 10 ∷ [])))

unfoldable pub graph_text : Graph → List ℕ
graph_text graph = problem_text graph.vertices (arc_count graph) ++ flat_map row_text (rows_of graph)
