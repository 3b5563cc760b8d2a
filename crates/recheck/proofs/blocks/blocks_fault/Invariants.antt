use Rattle.std.proofs.Common.{[], drop, take}
use Rattle.std.specs.Prelude.{Option}
use Rattle.certificate_text.specs.declared.fault.CertFault.{CertFault}
use Rattle.recheck.specs.Checks.{done, FindsFirst, blocks_checks}
use Rattle.recheck.proofs.blocks.blocks_fault.Given as goal

abbrev pub invariant-loop-i : goal.invariant-loop-i
invariant-loop-i l =
    (o : Option CertFault) → FindsFirst (blocks_checks l.star (take l.i l.blocks) l.line (drop l.i l.blocks) (λ _. done)) o → FindsFirst (blocks_checks l.star [] l.first l.table (λ _. done)) o
