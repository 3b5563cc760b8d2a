use Rattle.std.proofs.Common.{take}
use Rattle.certify.specs.Starts.{AreStartsOf}
use Rattle.certify.proofs.starts.starts_of.Given as goal

abbrev pub invariant-loop-route : goal.invariant-loop-route
invariant-loop-route l = AreStartsOf l.star l.from (take l.route-index l.others) l.starts.items
