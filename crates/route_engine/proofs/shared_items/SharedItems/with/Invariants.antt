use Rattle.std.proofs.Common.{◌≡◌, map, take}
use Rattle.std.specs.Arc.{arc_value}
use Rattle.route_engine.proofs.shared_items.SharedItems.with.Given as goal

abbrev pub invariant-loop-handle : goal.invariant-loop-handle
invariant-loop-handle g l = map arc_value l.handles.items ≡ map arc_value (take l.handle-index l.handle-items)
