use Rattle.std.proofs.Common.{◌≡◌, ◌≤◌, ◌-◌, ℕ, length, get_or}
use Rattle.hierarchy_build.proofs.push.place_of.Given as goal

abbrev pub invariant-loop-place : goal.invariant-loop-place
invariant-loop-place l = record {
  late : l.from ≤ l.place;
  earliest : (k : ℕ) → l.from ≤ k → get_or l.head k 0 ≡ l.w → l.place ≤ k;
}

abbrev pub decreases-loop-place : goal.decreases-loop-place
decreases-loop-place l = length l.head - l.place
