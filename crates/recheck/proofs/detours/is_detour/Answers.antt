use Rattle.std.proofs.Common.{arith}
use Rattle.recheck.proofs.DetourLemmas.{vertex_inside}
use Rattle.recheck.proofs.detours.is_detour.Goals as goal

pub vertex-start-requires : goal.vertex-start-requires
vertex-start-requires c = vertex_inside c.args.basis.now c.args.path.now c.args.places.now c.args.first c.requires (omega arith)

pub vertex-end-requires : goal.vertex-end-requires
vertex-end-requires c = vertex_inside c.args.basis.now c.args.path.now c.args.places.now c.args.last c.requires (omega arith)
