use Rattle.std.proofs.Common.{◌≡◌, length}
use Rattle.label_setting.specs.Search.{IsTracked, IsTouchedList, IsSearch, work_left}
use Rattle.label_setting.proofs.memory.SearchMemory.run.Given as goal

abbrev pub invariant-search : goal.invariant-search
invariant-search g l = record {
  size : length l.self.labels.items ≡ length l.fn.self.labels.items;
  tracked : IsTracked l.self.labels.items l.self.touched.items;
  listed : IsTouchedList l.goal.radius l.self.labels.items l.self.touched.items;
  search : IsSearch (g.N.Network.graph l.net) l.goal l.limit l.self.labels.items l.self.queue 0 0;
}

abbrev pub decreases-search : goal.decreases-search
decreases-search g l = work_left l.self
