use Rattle.std.proofs.Common.{◌≡◌, replicate}
use Rattle.desk_core.specs.Worlds.{new_caller}
use Rattle.desk_core.proofs.world.new_callers.Given as goal

abbrev pub invariant-loop : goal.invariant-loop
invariant-loop l = l.made.items ≡ replicate l.counter new_caller
