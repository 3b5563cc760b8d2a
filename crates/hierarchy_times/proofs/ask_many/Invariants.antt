use Rattle.std.proofs.Common.{All}
use Rattle.road_model.specs.Graph.{IsVertex}
use Rattle.hierarchy_times.proofs.ask_many.Given as goal

abbrev pub invariant-loop-target : goal.invariant-loop-target
invariant-loop-target l = All (λ v. IsVertex l.vertices v) l.targets.items
