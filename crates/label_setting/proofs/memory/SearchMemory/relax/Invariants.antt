use Rattle.std.proofs.Common.{◌≡◌, ◌≤◌, ◌-◌, length, get_or}
use Rattle.road_model.specs.Graph.{steps_from}
use Rattle.label_setting.specs.Search.{IsTracked, IsTouchedList, IsSearch, work_left}
use Rattle.label_setting.proofs.memory.SearchMemory.relax.Given as goal

abbrev pub invariant-steps : goal.invariant-steps
invariant-steps g l = record {
  size : length l.self.labels.items ≡ length l.fn.self.labels.items;
  tracked : IsTracked l.self.labels.items l.self.touched.items;
  listed : IsTouchedList l.goal.radius l.self.labels.items l.self.touched.items;
  work : work_left l.self ≤ work_left l.fn.self;
  label : get_or l.self.labels.items l.from.vertex 0 ≡ l.from.distance;
  search : IsSearch (g.N.Network.graph l.net) l.goal l.within l.self.labels.items l.self.queue l.from.vertex l.i;
}

abbrev pub decreases-steps : goal.decreases-steps
decreases-steps g l = length (steps_from l.from.vertex 1 (g.N.Network.graph l.net).arcs) - l.i
