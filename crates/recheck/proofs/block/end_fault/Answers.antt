use Rattle.std.proofs.Common.{sym, subst}
use Rattle.std.specs.Prelude.{Some}
use Rattle.certificate_text.specs.declared.certificate.Block.{Block}
use Rattle.certificate_text.specs.declared.fault.CertFault.{CertFault}
use Rattle.recheck.specs.Rows.{HasRow}
use Rattle.recheck.specs.Checks.{done, FindsFirst, end_checks}
use Rattle.recheck.specs.RowTests.{AreClosed}
use Rattle.recheck.proofs.BlockFaults.{end_holds, end_open}
use Rattle.recheck.proofs.block.end_fault.Goals as goal

pub returns : goal.returns
returns g c =
    λ h turns.
    let has : HasRow c.args.table.now.rows c.args.table.now.root = subst (λ (b : Block). HasRow c.args.table.now.rows b.root) c.block.ensures (c.has_row.ensures.0 c.if-not-has_row.false) in
    end_holds h (g.M.Network.graph c.args.away.now) c.args.table.now c.args.line has (c.is_closed.ensures.0 c.if-not-is_closed.false) turns

pub returns-then-not-is_closed : goal.returns-then-not-is_closed
returns-then-not-is_closed g c =
    λ h turns.
    let has : HasRow c.args.table.now.rows c.args.table.now.root = subst (λ (b : Block). HasRow c.args.table.now.rows b.root) c.block.ensures (c.has_row.ensures.0 c.if-not-has_row.false) in
    let gap = end_open h (g.M.Network.graph c.args.away.now) c.args.table.now c.args.line has (λ (all : AreClosed (g.M.Network.graph c.args.away.now) c.args.table.now). let yes = c.is_closed.ensures.1 all in let none = c.if-not-is_closed.true in let e : ⊥ = cc in e) turns in
    subst (λ (f : CertFault). FindsFirst (end_checks h c.args.table.now c.args.line done) (Some f)) (sym c.fault-then-not-is_closed.ensures) gap
