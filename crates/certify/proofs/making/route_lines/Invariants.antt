use Rattle.std.proofs.Common.{◌≡◌, map, take}
use Rattle.certify.specs.Written.{cert_route}
use Rattle.certify.proofs.making.route_lines.Given as goal

abbrev pub invariant-loop-route : goal.invariant-loop-route
invariant-loop-route l = l.lines.items ≡ map cert_route (take l.route-index l.others)
