use Rattle.std.proofs.Common.{◌≡◌, take}
use Rattle.std.specs.List.{filter}
use Rattle.recheck.proofs.NearLemmas.{nears, vertices_of}
use Rattle.recheck.proofs.near.near_vertices.Given as goal

abbrev pub invariant-loop-row : goal.invariant-loop-row
invariant-loop-row l = l.vertices.items ≡ filter (nears l.basis) (take l.row-index (vertices_of l.row-items))
