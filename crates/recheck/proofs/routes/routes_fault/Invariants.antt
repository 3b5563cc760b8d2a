use Rattle.std.specs.Option.{option_copied}
use Rattle.recheck.proofs.RouteLines.{RoutesPassed}
use Rattle.recheck.proofs.routes.routes_fault.Given as goal

abbrev pub invariant-loop-r : goal.invariant-loop-r
invariant-loop-r l = RoutesPassed l.basis l.fn.line l.routes l.r-index l.at (option_copied l.before)
