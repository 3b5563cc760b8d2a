-- What an event makes of a world where memory ran out.
--   WasStep w event next   it came to something, though that isn't told
use Rattle.desk_core.specs.declared.event.Event.{Event}
use Rattle.desk_core.specs.declared.event.Outcome.{Outcome}
use Rattle.desk_core.specs.Worlds.{WorldState, IsEventStep}

pub record WasStep (w : WorldState) (event : Event) (next : WorldState) : Type 0 where
  pub given : Outcome
  pub step : IsEventStep w event given next
