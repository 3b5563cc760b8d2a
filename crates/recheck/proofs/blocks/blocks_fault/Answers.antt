use Rattle.std.proofs.Common.{◌≡◌, ◌+◌, List, length, take, sym, subst, arith}
use Rattle.std.specs.Prelude.{Option, Some, None}
use Rattle.certificate_text.specs.declared.certificate.Block.{Block}
use Rattle.certificate_text.specs.declared.fault.CertFault.{CertFault}
use Rattle.recheck.specs.Checks.{done, FindsFirst, block_checks}
use Rattle.recheck.proofs.BlockFaults.{block_at_some, block_at_none}
use Rattle.recheck.proofs.blocks.blocks_fault.Goals as goal

pub returns-in-Ok-Some : goal.returns-in-Ok-Some
returns-in-Ok-Some c =
    let found = subst (λ (o : Option CertFault). FindsFirst (block_checks c.args.star.now (take c.loop-i.i c.args.table.now) c.loop-i.line c.index-blocks-i.result done) o) c.in-Ok-Some.field-0-is c.in-Ok-Some.ensures in
    let here = subst (λ (l : List Block). FindsFirst (block_checks c.args.star.now (take c.loop-i.i l) c.loop-i.line c.index-blocks-i.result done) (Some c.in-Ok-Some.fault)) (sym c.blocks-blocks.ensures) found in
    c.loop-i.invariant (Some c.in-Ok-Some.fault) (block_at_some c.args.star.now c.blocks-blocks.result.now c.loop-i.i c.loop-i.line c.index-blocks-i.result c.in-Ok-Some.fault c.loop-i-test.true c.index-blocks-i.is here)

pub loop-i-preserved : goal.loop-i-preserved
loop-i-preserved c =
    let none = subst (λ (o : Option CertFault). FindsFirst (block_checks c.args.star.now (take c.loop-i.i c.args.table.now) c.loop-i.line c.index-blocks-i.result done) o) c.in-Ok-None.field-0-is c.in-Ok-None.ensures in
    let here = subst (λ (l : List Block). FindsFirst (block_checks c.args.star.now (take c.loop-i.i l) c.loop-i.line c.index-blocks-i.result done) None) (sym c.blocks-blocks.ensures) none in
    let rows = c.len.ensures in
    let one = c.in_ok-line.ensures in
    let two = c.in_ok-line-2.ensures in
    let line : c.in_ok-line-2.line ≡ c.loop-i.line + 2 + length c.index-blocks-i.result.rows = omega arith in
    λ o rest.
    c.loop-i.invariant o (block_at_none c.args.star.now c.blocks-blocks.result.now c.loop-i.i c.loop-i.line c.in_ok-line-2.line c.index-blocks-i.result o c.loop-i-test.true c.index-blocks-i.is line here rest)
