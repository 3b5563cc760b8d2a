use Rattle.std.proofs.Common.{drop}
use Rattle.std.specs.Prelude.{Option}
use Rattle.certificate_text.specs.declared.fault.CertFault.{CertFault}
use Rattle.recheck.specs.Checks.{done, FindsFirst, rows_checks}
use Rattle.recheck.proofs.block.rows_fault.Given as goal

abbrev pub invariant-loop-row : goal.invariant-loop-row
invariant-loop-row g l =
    (o : Option CertFault) → FindsFirst (rows_checks (g.N.Network.graph l.toward) l.table l.line l.before (drop l.row-index l.table.rows) done) o → FindsFirst (rows_checks (g.N.Network.graph l.toward) l.table l.first 0 l.table.rows done) o
