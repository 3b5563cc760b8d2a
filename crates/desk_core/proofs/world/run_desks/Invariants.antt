use Rattle.std.proofs.Common.{take}
use Rattle.desk_core.specs.Worlds.{IsWorldRun}
use Rattle.desk_core.proofs.world.run_desks.Given as goal

abbrev pub invariant-loop-event : goal.invariant-loop-event
invariant-loop-event g l = IsWorldRun l.initial.world (take l.event-index l.events) l.outcomes l.world
