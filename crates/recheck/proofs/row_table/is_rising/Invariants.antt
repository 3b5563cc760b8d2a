use Rattle.std.proofs.Common.{◌+◌, ◌<◌, ℕ, map, slice_index}
use Rattle.certificate_text.specs.declared.certificate.BlockRow.{BlockRow}
use Rattle.recheck.proofs.row_table.is_rising.Given as goal

abbrev pub invariant-loop-i : goal.invariant-loop-i
invariant-loop-i l = (k : ℕ) → k + 1 < l.i → slice_index (map (λ (r : BlockRow). r.vertex) l.rows) k < slice_index (map (λ (r : BlockRow). r.vertex) l.rows) (k + 1)
