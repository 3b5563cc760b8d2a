use Rattle.std.proofs.Common.{◌≡◌, ◌<◌, List, length, get_or, ap, ◌∙◌, subst}
use Rattle.std.specs.Prelude.{Some}
use Rattle.certificate_text.specs.declared.certificate.BlockRow.{BlockRow}
use Rattle.certificate_text.specs.declared.certificate.Block.{Block}
use Rattle.recheck.specs.Checks.{done, FindsFirst, row_checks}
use Rattle.recheck.proofs.BlockFaults.{row_some}
use Rattle.recheck.proofs.block.rows_fault.Goals as goal

pub returns-in-Some : goal.returns-in-Some
returns-in-Some g c =
    let same : c.as_slice-row-items.result.now ≡ c.args.table.now.rows = c.as_slice-row-items.ensures ∙ ap (λ (b : Block). b.rows) c.block.ensures in
    let inside : c.loop-row.row-index < length c.args.table.now.rows = subst (λ (l : List BlockRow). c.loop-row.row-index < length l) same c.loop-row-test.true in
    let here = subst (λ (l : List BlockRow). FindsFirst (row_checks (g.N.Network.graph c.args.toward.now) c.args.table.now c.loop-row.line c.loop-row.before (get_or l c.loop-row.row-index (record { vertex = 0; label = 0; arc = 0 })) done) (Some c.in-Some.fault)) same c.in-Some.ensures in
    c.loop-row.invariant (Some c.in-Some.fault) (row_some (g.N.Network.graph c.args.toward.now) c.args.table.now c.loop-row.line c.loop-row.before c.loop-row.row-index c.args.table.now.rows (record { vertex = 0; label = 0; arc = 0 }) c.in-Some.fault inside here)
