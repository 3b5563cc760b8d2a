-- The arcs of a graph that a test writes down.
--   row_of x       the arc (tail, head, length), as a row
--   all_rows xs    the rows of these arcs, in their order
use Rattle.std.specs.Prelude.{ℕ, List, map}
use Rattle.road_model.specs.declared.rows.ArcRow.{ArcRow}

abbrev pub row_of : ℕ × ℕ × ℕ → ArcRow
row_of x = record { tail = x.0; head = x.1; length = x.2 }

abbrev pub all_rows : List (ℕ × ℕ × ℕ) → List ArcRow
all_rows xs = map row_of xs
