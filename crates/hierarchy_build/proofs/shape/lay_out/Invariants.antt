use Rattle.std.proofs.Common.{[], ◌≤◌, ℕ}
use Rattle.hierarchy_build.specs.Waits.{Waits, ShapeSoFar}
use Rattle.hierarchy_build.proofs.shape.lay_out.Given as goal

abbrev pub invariant-loop-v : goal.invariant-loop-v
invariant-loop-v l = record {
  so_far : ShapeSoFar l.ranks l.v l.layout.first.items l.layout.head.items l.layout.pending;
  waits : (a b : ℕ) → Waits 0 [] [] l.fn.pending a b → Waits l.v l.layout.first.items l.layout.head.items l.layout.pending a b;
  few : l.triangles ≤ l.most;
}
