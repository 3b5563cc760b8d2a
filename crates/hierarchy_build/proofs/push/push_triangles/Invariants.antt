use Rattle.hierarchy_build.specs.Lengths.{Keeps, AreTight}
use Rattle.hierarchy_build.proofs.push.push_triangles.Given as goal

abbrev pub invariant-loop-v : goal.invariant-loop-v
invariant-loop-v l = record {
  keeps : Keeps l.ranks l.first l.head 0 l.fn.up l.fn.down l.up l.down;
  tight : AreTight l.ranks l.first l.head l.up l.down l.v;
}
