use Rattle.std.proofs.Common.{arith}
use Rattle.recheck.proofs.DetourLemmas.{sum_inside}
use Rattle.recheck.proofs.detours.is_over_stretched.Goals as goal

pub between-long-requires-clause-first : goal.between-long-requires-clause-first
between-long-requires-clause-first c =
    let leads = c.is_detour.ensures.0 c.if-not-is_detour.false in
    sum_inside c.args.basis.now c.args.path.now c.args.places.now c.args.first c.requires (omega (arith, leads.rise, leads.inside))

pub between-long-requires-clause-last : goal.between-long-requires-clause-last
between-long-requires-clause-last c =
    let leads = c.is_detour.ensures.0 c.if-not-is_detour.false in
    sum_inside c.args.basis.now c.args.path.now c.args.places.now c.args.last c.requires (omega (arith, leads.inside))
