-- Versions of a graph, and why a further one is refused.
--   version_fault g n batch   what keeps a batch from making a version after version n, whose graph is g: the first
--                      failing change; else that n is the last number
--   IsRefusedAs fault given   a refusal: memory was refused, which nothing else says, or the fault is the one given
use Rattle.std.specs.Prelude.{◌≡◌, ◌⊎◌, ◌==◌, ℕ, List, Option, Some, None, if◌then◌else◌}
use Rattle.std.specs.Option.{option_or}
use Rattle.road_model.specs.declared.change.Change.{Change}
use Rattle.road_model.specs.declared.change.ChangeFault.{ChangeFault}
use Rattle.road_model.specs.declared.change.ChangeFault.TheVariants as fault
use Rattle.road_model.specs.declared.planner.TheConstants.{LAST_VERSION}
use Rattle.road_model.specs.Graph.{Graph}
use Rattle.road_model.specs.Changes.{change_fault}

abbrev pub version_fault : Graph → ℕ → List Change → Option ChangeFault
version_fault g n batch = option_or (change_fault g batch) (if n == LAST_VERSION then Some fault.Full else None)

abbrev pub IsRefusedAs : Option ChangeFault → ChangeFault → Type 0
IsRefusedAs expected given = (given ≡ fault.NoMemory) ⊎ (expected ≡ Some given)
