use Rattle.std.proofs.Common.{◌≡◌}
use Rattle.hierarchy_times.proofs.ask_again.Given as goal

abbrev pub invariant-loop-source : goal.invariant-loop-source
invariant-loop-source l = l.known.graph.vertices ≡ l.vertices

abbrev pub invariant-loop-target : goal.invariant-loop-target
invariant-loop-target l = l.known.graph.vertices ≡ l.vertices
