use Rattle.std.proofs.Common.{◌≡◌}
use Rattle.recheck.proofs.RunEnds.{spread_once}
use Rattle.recheck.proofs.numbers.are_numbers.Goals as goal

pub returns-then-r-spread_of : goal.returns-then-r-spread_of
returns-then-r-spread_of c = (
  (λ yes. absurd (let e : _ ≡ _ = yes in cc)),
  (λ are. absurd (c.if-r-spread_of.true (spread_once c.args.basis.now c.args.r.now.arcs c.args.r.now.plateau c.spread_of.result are.is_plateau c.spread_of.ensures))),
)
