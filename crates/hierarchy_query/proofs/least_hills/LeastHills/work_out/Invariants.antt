use Rattle.std.proofs.Common.{◌≡◌, ◌-◌, length}
use Rattle.hierarchy_query.specs.KnownHills.{AreHills}
use Rattle.hierarchy_query.proofs.KnownHills.{WorkingOut}
use Rattle.hierarchy_query.proofs.least_hills.LeastHills.work_out.Given as goal

abbrev pub invariant-back : goal.invariant-back
invariant-back l = record {
  hills : AreHills (length l.hierarchy.shape.order) l.hierarchy l.self;
  working : WorkingOut l.hierarchy.shape.first l.hierarchy.shape.head l.self.least.items l.x l.from l.self.found.items l.place;
  same : l.self.from ≡ l.fn.self.from;
}

abbrev pub decreases-back : goal.decreases-back
decreases-back l = l.place - l.from
