use Rattle.std.proofs.Common.{◌+◌, ◌-◌, ◌*◌}
use Rattle.local_optimality.proofs.Halvings.{OnRounds}
use Rattle.local_optimality.proofs.optimality.failing_start.Given as goal

abbrev pub invariant-rounds : goal.invariant-rounds
invariant-rounds g l =
    OnRounds (g.O.Oracle.graph l.fn.oracle) (g.O.Oracle.graph l.oracle) l.alpha l.opt_len l.trail (g.O.Oracle.asked l.fn.oracle) (g.O.Oracle.asked l.oracle) l.via_at l.first l.width

abbrev pub decreases-rounds : goal.decreases-rounds
decreases-rounds g l = 3 * (l.via_at - l.first) + l.width
