use Rattle.std.proofs.Common.{◌≡◌, ℕ, ◌-◌, ◌<◌, length}
use Rattle.road_model.specs.declared.network.Step.{Step}
use Rattle.road_model.specs.Graph.{step_at}
use Rattle.canonical_trees.specs.Tight.{HasTightLabel}
use Rattle.canonical_trees.proofs.descent.step_down.Given as goal
use Rattle.std.specs.Prelude.{Some}

abbrev pub invariant-loop-step : goal.invariant-loop-step
invariant-loop-step g l =
    (j : ℕ) (s : Step) → j < l.i → step_at (g.N.Network.graph l.net) l.v j ≡ Some s → HasTightLabel l.labels l.left s → ⊥

abbrev pub decreases-loop-step : goal.decreases-loop-step
decreases-loop-step g l = length (g.N.Network.graph l.net).arcs - l.i
