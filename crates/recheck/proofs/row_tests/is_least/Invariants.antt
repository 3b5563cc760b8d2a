use Rattle.std.proofs.Common.{◌≡◌, ℕ, ◌-◌, ◌<◌, length}
use Rattle.std.specs.Prelude.{Some}
use Rattle.road_model.specs.declared.network.Step.{Step}
use Rattle.road_model.specs.Graph.{step_at}
use Rattle.recheck.specs.RowTests.{IsTightStep}
use Rattle.recheck.proofs.row_tests.is_least.Given as goal

abbrev pub invariant-loop-step : goal.invariant-loop-step
invariant-loop-step g l = (j : ℕ) (s : Step) → j < l.i → step_at (g.N.Network.graph l.toward) l.vertex j ≡ Some s → IsTightStep l.table.rows l.row.label s → ⊥

abbrev pub decreases-loop-step : goal.decreases-loop-step
decreases-loop-step g l = length (g.N.Network.graph l.toward).arcs - l.i
