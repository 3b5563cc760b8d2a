use Rattle.std.proofs.Common.{◌≡◌, ℕ, ◌+◌, length, ap, ◌∙◌, subst}
use Rattle.std.specs.Prelude.{Option, None}
use Rattle.certificate_text.specs.declared.certificate.Block.{Block}
use Rattle.certificate_text.specs.declared.fault.CertFault.{CertFault}
use Rattle.recheck.specs.Checks.{done, FindsFirst, rows_checks, end_checks}
use Rattle.recheck.proofs.Firsts.{rows_some, rows_split}
use Rattle.recheck.proofs.block.tree_fault.Goals as goal

pub returns-in-Some : goal.returns-in-Some
returns-in-Some g c =
    let here = subst (λ (o : Option CertFault). FindsFirst (rows_checks (g.N.Network.graph c.args.toward.now) c.args.table.now c.args.first 0 c.args.table.now.rows done) o) c.in-Some.is c.in_ok-fault.ensures in
    rows_some (g.N.Network.graph c.args.toward.now) c.args.table.now c.args.first 0 c.args.table.now.rows (end_checks (g.N.Network.graph c.args.toward.now) c.args.table.now (c.args.first + length c.args.table.now.rows) done) c.in-Some.fault here

pub returns : goal.returns
returns g c =
    let none : c.in_ok-fault.field-0 ≡ None = c.in_default.is in
    let here = subst (λ (o : Option CertFault). FindsFirst (rows_checks (g.N.Network.graph c.args.toward.now) c.args.table.now c.args.first 0 c.args.table.now.rows done) o) none c.in_ok-fault.ensures in
    let line : c.in_ok-line.line ≡ c.args.first + length c.args.table.now.rows = c.in_ok-line.ensures ∙ ap (λ (n : ℕ). c.args.first + n) (c.len.ensures ∙ ap (λ (b : Block). length b.rows) c.block.ensures) in
    let end = subst (λ (n : ℕ). FindsFirst (end_checks (g.N.Network.graph c.args.toward.now) c.args.table.now n done) c.end_fault.result) line (c.end_fault.ensures (g.N.Network.graph c.args.toward.now) c.requires.turned) in
    rows_split (g.N.Network.graph c.args.toward.now) c.args.table.now c.args.first 0 c.args.table.now.rows (end_checks (g.N.Network.graph c.args.toward.now) c.args.table.now (c.args.first + length c.args.table.now.rows) done) c.end_fault.result here end
