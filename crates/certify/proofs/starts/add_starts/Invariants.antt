use Rattle.certify.proofs.RouteStarts.{AddsBefore}
use Rattle.certify.proofs.starts.add_starts.Given as goal

abbrev pub invariant-loop-place : goal.invariant-loop-place
invariant-loop-place l = AddsBefore l.trail l.place l.fn.starts.items l.starts.items
