use Rattle.std.proofs.Common.{◌≡◌, ◌≤◌, ◌-◌, ℕ, map, length, vec_len}
use Rattle.std.specs.Global.{Vec}
use Rattle.hierarchy_build.specs.Waits.{nothing_waits}
use Rattle.hierarchy_build.proofs.pending.Pending.new.Given as goal

abbrev pub invariant-fill : goal.invariant-fill
invariant-fill l = record {
  empty : map (λ (v : Vec ℕ). v.items) l.lists.items ≡ nothing_waits (length l.lists.items);
  few : vec_len l.lists ≤ l.ranks;
}

abbrev pub decreases-fill : goal.decreases-fill
decreases-fill l = l.ranks - vec_len l.lists
