use Rattle.std.proofs.Common.{◌≡◌, map, take}
use Rattle.road_model.specs.declared.rows.ArcRow.{ArcRow}
use Rattle.forward_star.proofs.star.lengths_of.Given as goal

abbrev pub invariant-loop-row : goal.invariant-loop-row
invariant-loop-row l = l.lengths.items ≡ map (λ (r : ArcRow). r.length) (take l.row-index l.rows)
