use Rattle.recheck.proofs.ViaLemmas.{ArePassed}
use Rattle.recheck.proofs.vias.vias_fault.Given as goal

abbrev pub invariant-loop-via : goal.invariant-loop-via
invariant-loop-via l = ArePassed l.basis l.routes l.nears.items l.fn.line l.vias l.via-index l.at l.place
