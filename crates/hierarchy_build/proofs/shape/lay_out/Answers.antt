use Rattle.std.proofs.Common.{◌≡◌, ℕ, subst, arith}
use Rattle.hierarchy_build.specs.Waits.{ShapeSoFar}
use Rattle.hierarchy_build.proofs.shape.lay_out.Goals as goal

pub returns-clause-so_far : goal.returns-clause-so_far
returns-clause-so_far c =
    let all : c.loop-v.v ≡ c.args.ranks = omega arith in
    subst (λ (x : ℕ). ShapeSoFar c.args.ranks x c.loop-v.layout.first.items c.loop-v.layout.head.items c.loop-v.layout.pending) all c.loop-v.invariant.so_far
