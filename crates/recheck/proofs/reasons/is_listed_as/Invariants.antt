use Rattle.std.proofs.Common.{take}
use Rattle.recheck.specs.Reasons.{IsListedAs}
use Rattle.recheck.proofs.reasons.is_listed_as.Given as goal

abbrev pub invariant-loop-route : goal.invariant-loop-route
invariant-loop-route l = IsListedAs (take l.route-index l.routes) l.path l.name → ⊥
