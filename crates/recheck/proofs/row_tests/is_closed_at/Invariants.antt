use Rattle.std.proofs.Common.{◌≡◌, ℕ, ◌+◌, ◌-◌, ◌<◌, length}
use Rattle.std.specs.Prelude.{Some}
use Rattle.road_model.specs.declared.network.Step.{Step}
use Rattle.road_model.specs.Graph.{step_at}
use Rattle.tree_search.specs.Ball.{IsWithin}
use Rattle.recheck.specs.Rows.{HasRowBelow}
use Rattle.recheck.proofs.row_tests.is_closed_at.Given as goal

abbrev pub invariant-loop-step : goal.invariant-loop-step
invariant-loop-step g l = (j : ℕ) (s : Step) → j < l.i → step_at (g.M.Network.graph l.away) l.vertex j ≡ Some s → IsWithin l.table.radius (l.row.label + s.length) → HasRowBelow l.table.rows s.head (l.row.label + s.length)

abbrev pub decreases-loop-step : goal.decreases-loop-step
decreases-loop-step g l = length (g.M.Network.graph l.away).arcs - l.i
