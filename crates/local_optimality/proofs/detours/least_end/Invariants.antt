use Rattle.std.proofs.Common.{◌-◌}
use Rattle.local_optimality.proofs.Halvings.{OnEnds}
use Rattle.local_optimality.proofs.detours.least_end.Given as goal

abbrev pub invariant-halves : goal.invariant-halves
invariant-halves g l =
    OnEnds (g.O.Oracle.graph l.fn.oracle) (g.O.Oracle.graph l.oracle) l.trail (g.O.Oracle.asked l.fn.oracle) (g.O.Oracle.asked l.oracle) l.via_at l.first l.reach l.clear l.last l.distance

abbrev pub decreases-halves : goal.decreases-halves
decreases-halves g l = l.last - l.clear
