use Rattle.std.specs.List.{All}
use Rattle.desk_core.specs.Worlds.{IsEventFor}
use Rattle.desk_core.proofs.tests.world.events.Given as goal

abbrev pub invariant-loop-happens : goal.invariant-loop-happens
invariant-loop-happens l = All (IsEventFor 2) l.events.items
