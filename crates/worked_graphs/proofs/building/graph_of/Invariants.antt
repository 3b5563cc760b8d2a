use Rattle.std.proofs.Common.{◌≡◌, ◌<◌, take, All}
use Rattle.road_model.specs.declared.rows.ArcRow.{ArcRow}
use Rattle.road_model.specs.Graph.{IsArc}
use Rattle.worked_graphs.specs.Rows.{all_rows}
use Rattle.worked_graphs.proofs.building.graph_of.Given as goal

abbrev pub invariant-loop-arc : goal.invariant-loop-arc
invariant-loop-arc l = record {
  made : l.rows ≡ all_rows (take l.arc-index l.arcs);
  sound : All (IsArc l.vertices) l.rows;
  short : All (λ (r : ArcRow). r.length < 4294967296) l.rows;
}
